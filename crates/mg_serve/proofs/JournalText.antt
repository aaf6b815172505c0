-- Journals are scripts: complete lines, one after another.
use Rattle.std.proofs.Common.{◌≡◌, ◌≢◌, ◌≤◌, ◌<◌, ◌^◌, ◌⊎◌, inl, inr, ℕ, ◌==◌, decimal, replicate, Bool, true, false, ◌||◌, List, [], ◌∷◌, ◌++◌, length, take, drop, All, Option, Some, None, IfSome, refl, sym, ap, subst, ◌∙◌, append_assoc, append-nil, codes}
use Rattle.std.specs.Prelude.{if◌then◌else◌}
use Rattle.std.specs.List.{list_any}
use Rattle.std.proofs.lemmas.List.{take-append-drop}
use Rattle.std.proofs.lemmas.List.Elements.{All-cons, All-nil}
use Rattle.std.proofs.lemmas.List.Folds.{list_any-append}
use Rattle.std.specs.Io.KnownBytes.{append_known}
use Rattle.mg_journal.specs.Text.{IsWhole, has_line_feed, whole_lines}
use Rattle.mg_journal.proofs.TextLemmas.{whole_before, whole_front, whole_more, whole_nil, whole_none, whole_twice}
use Rattle.mg_words.specs.OptionSteps.{◌>>=◌}
use Rattle.mg_lines.specs.Lines.{lines_after, lines_of, without_return}
use Rattle.mg_words.specs.declared.peer.Peer.{Peer}
use Rattle.mg_core.specs.declared.event.Event.{Event}
use Rattle.mg_core.specs.declared.event.Event.TheVariants.{Control, Media, Tick}
use Rattle.mg_core.specs.Counted.{expanded, is_mark, ticks_line}
use Rattle.mg_core.specs.Script.{event_of, events_of, then_all}
use Rattle.mg_core.specs.Recording.{Entry, Happened, Noted, IsDatagram, IsRecorded, RecordingsAreRead, datagram_text, entry_line, event_line, events_in, recording_of}
use Rattle.mg_core.proofs.CountReadBack.{count_is_ticks, script_same}
use Rattle.mg_core.proofs.CountedLemmas.{expanded_both}
use Rattle.mg_core.proofs.RunLemmas.{events_both}
use Rattle.mg_chain.specs.Seals.{IsSeal, is_seal}
use Rattle.mg_chain.proofs.SealLemmas.{seal_line, seal_text}
use Rattle.mg_ports.specs.Journaled.{IsComment}
use Rattle.mg_serve.specs.JournalLaws.{IsJournalOf}

-- ## The lines of complete text

parts_of : (b : ℕ) (bs : List ℕ) (fed : Bool) → has_line_feed (b ∷ bs) ≡ fed → IsWhole (b ∷ bs)
    → (has_line_feed (b ∷ bs) ≡ true) × IsWhole bs
unfolding whole_lines
parts_of b bs true fed whole =
    let same : b ∷ whole_lines bs ≡ b ∷ bs = rw fed at whole in
    let left : whole_lines bs ≡ bs = cc in
    (fed, left)
parts_of b bs false unfed whole =
    let none : List ℕ = [] in
    let same : none ≡ b ∷ bs = rw unfed at whole in
    absurd cc

more_byte : (ended : Bool) (partial : List ℕ) (b : ℕ) (bs y : List ℕ) (feed : Bool) → (b == 10) ≡ feed
    → has_line_feed (b ∷ bs) ≡ true
    → ((p : List ℕ) → (p ≡ []) ⊎ (has_line_feed bs ≡ true)
    → lines_after ended p (bs ++ y) ≡ lines_after ended p bs ++ lines_after ended [] y)
    → lines_after ended partial (b ∷ (bs ++ y)) ≡ lines_after ended partial (b ∷ bs) ++ lines_after ended [] y
unfolding lines_after
more_byte ended partial b bs y true is fed more =
    rw is (ap (λ (l : List (List ℕ)). without_return partial ∷ l) (more [] (inl refl)))
more_byte ended partial b bs y false is fed more =
    let later : has_line_feed bs ≡ true = rw is at fed in
    rw is (more (partial ++ b ∷ []) (inr later))

lines_more : (ended : Bool) (partial x y : List ℕ) → IsWhole x → (partial ≡ []) ⊎ (has_line_feed x ≡ true)
    → lines_after ended partial (x ++ y) ≡ lines_after ended partial x ++ lines_after ended [] y
unfolding lines_after
lines_more ended partial [] y whole (inl none) = rw none refl
lines_more ended partial [] y whole (inr fed) = absurd cc
lines_more ended partial (b ∷ bs) y whole starts =
    let parts = parts_of b bs (has_line_feed (b ∷ bs)) refl whole in
    more_byte ended partial b bs y (b == 10) refl parts.0 (λ p s. lines_more ended p bs y parts.1 s)

either_none : (none : List (List ℕ)) (q : Bool) → (if q then none else none) ≡ none
either_none none true = refl
either_none none false = refl

-- A line feed ends a line, and any other byte continues the line.
line_feed : (ended : Bool) (partial : List ℕ) (b : ℕ) (bs : List ℕ) → (b == 10) ≡ true
    → lines_after ended partial (b ∷ bs) ≡ without_return partial ∷ lines_after ended [] bs
unfolding lines_after
line_feed ended partial b bs is = rw is refl

line_byte : (ended : Bool) (partial : List ℕ) (b : ℕ) (bs : List ℕ) → (b == 10) ≡ false
    → lines_after ended partial (b ∷ bs) ≡ lines_after ended (partial ++ b ∷ []) bs
unfolding lines_after
line_byte ended partial b bs is = rw is refl

whole_byte : (b : ℕ) (bs : List ℕ) → has_line_feed (b ∷ bs) ≡ true → whole_lines (b ∷ bs) ≡ b ∷ whole_lines bs
unfolding whole_lines
whole_byte b bs fed = rw fed refl

no_lines : (ended : Bool) → lines_after ended [] [] ≡ []
unfolding lines_after
no_lines ended = refl

unfed_byte : (partial : List ℕ) (b : ℕ) (bs : List ℕ) (feed : Bool) → (b == 10) ≡ feed → has_line_feed (b ∷ bs) ≡ false
    → ((p : List ℕ) → has_line_feed bs ≡ false → lines_after false p bs ≡ []) → lines_after false partial (b ∷ bs) ≡ []
unfed_byte partial b bs true is unfed more =
    let wrong : true ≡ false = rw is at unfed in
    absurd cc
unfed_byte partial b bs false is unfed more =
    let later : has_line_feed bs ≡ false = rw is at unfed in
    line_byte false partial b bs is ∙ more (partial ++ b ∷ []) later

cut_unfed : (partial front : List ℕ) → has_line_feed front ≡ false → lines_after false partial front ≡ []
unfolding lines_after
cut_unfed partial [] unfed = either_none [] (length partial == 0)
cut_unfed partial (b ∷ bs) unfed = unfed_byte partial b bs (b == 10) refl unfed (λ p k. cut_unfed p bs k)

after_feed : (bs : List ℕ) (fed : Bool) → has_line_feed bs ≡ fed
    → ((p : List ℕ) → has_line_feed bs ≡ true → lines_after false p bs ≡ lines_after true p (whole_lines bs))
    → lines_after false [] bs ≡ lines_after true [] (whole_lines bs)
after_feed bs true fed more = more [] fed
after_feed bs false unfed more =
    cut_unfed [] bs unfed ∙ (sym (no_lines true) ∙ sym (ap (lines_after true []) (whole_none bs unfed)))

fed_byte : (partial : List ℕ) (b : ℕ) (bs : List ℕ) (feed : Bool) → (b == 10) ≡ feed → has_line_feed (b ∷ bs) ≡ true
    → ((p : List ℕ) → has_line_feed bs ≡ true → lines_after false p bs ≡ lines_after true p (whole_lines bs))
    → lines_after false partial (b ∷ bs) ≡ lines_after true partial (b ∷ whole_lines bs)
fed_byte partial b bs true is fed more =
    line_feed false partial b bs is
    ∙ (ap (λ (l : List (List ℕ)). without_return partial ∷ l) (after_feed bs (has_line_feed bs) refl more)
    ∙ sym (line_feed true partial b (whole_lines bs) is))
fed_byte partial b bs false is fed more =
    let later : has_line_feed bs ≡ true = rw is at fed in
    line_byte false partial b bs is ∙ (more (partial ++ b ∷ []) later ∙ sym (line_byte true partial b (whole_lines bs) is))

cut_fed : (partial front : List ℕ) → has_line_feed front ≡ true
    → lines_after false partial front ≡ lines_after true partial (whole_lines front)
cut_fed partial [] fed = absurd cc
cut_fed partial (b ∷ bs) fed =
    fed_byte partial b bs (b == 10) refl fed (λ p k. cut_fed p bs k)
    ∙ sym (ap (lines_after true partial) (whole_byte b bs fed))

-- The lines of truncated text are those of its complete lines.
pub cut_is : (front : List ℕ) → lines_of false front ≡ lines_of true (whole_lines front)
cut_is front = after_feed front (has_line_feed front) refl (λ p fed. cut_fed p front fed)

-- ## The events of complete text

-- All lines of this text are complete, and are read as a script of these events. `counts` says whether ticks are
-- counted at the start.
abbrev pub IsScriptFrom : (counts : Bool) → List ℕ → List Event → Type 0
IsScriptFrom counts text events = IsWhole text × (events_of (expanded counts (lines_of true text)) ≡ Some events)

-- Whether ticks are counted after this text.
abbrev pub marked : List ℕ → Bool
marked text = list_any is_mark (lines_of true text)

text_lines : (x y : List ℕ) → IsWhole x → lines_of true (x ++ y) ≡ lines_of true x ++ lines_of true y
text_lines x y whole = lines_more true [] x y whole (inl refl)

pub script_more : (c : Bool) (x y : List ℕ) (es fs : List Event) → IsScriptFrom c x es → IsScriptFrom (c || marked x) y fs
    → IsScriptFrom c (x ++ y) (es ++ fs)
script_more c x y es fs one other = (
  whole_more x y one.0 other.0,
  ap (λ (l : List (List ℕ)). events_of (expanded c l)) (text_lines x y one.0)
      ∙ (ap events_of (expanded_both c (lines_of true x) (lines_of true y))
      ∙ events_both (expanded c (lines_of true x)) (expanded (c || marked x) (lines_of true y)) es fs one.1 other.1),
)

pub marked_both : (x y : List ℕ) → IsWhole x → marked (x ++ y) ≡ (marked x || marked y)
marked_both x y whole =
    ap (λ (l : List (List ℕ)). list_any is_mark l) (text_lines x y whole)
    ∙ list_any-append is_mark (lines_of true x) (lines_of true y)

pub stays_marked : (x y : List ℕ) → IsWhole x → marked x ≡ true → marked (x ++ y) ≡ true
stays_marked x y whole is = marked_both x y whole ∙ ap (λ (b : Bool). b || marked y) is

-- The text, if it is known, is a journal of these events that begins with the preface.
abbrev pub Tells : (preface : List ℕ) → Option (List ℕ) → List Event → Type 0
Tells preface known events = IfSome known (λ text. IsJournalOf preface text events)

-- If a script is appended to known text, the result contains the events of both parts.
pub known_more : (preface : List ℕ) (known : Option (List ℕ)) (y : List ℕ) (es fs : List Event) → Tells preface known es
    → IsScriptFrom true y fs → Tells preface (append_known known y) (es ++ fs)
known_more preface None y es fs one other = tt
known_more preface (Some x) y es fs (tail, is, script, marks) other = (
  tail ++ y,
  ap (λ (l : List ℕ). l ++ y) is ∙ append_assoc preface tail y,
  script_more false tail y es fs script (subst (λ (b : Bool). IsScriptFrom b y fs) (sym marks) other),
  stays_marked tail y script.0 marks,
)

before_both : (e : Option Event) (l fs : List Event) → then_all e (l ++ fs) ≡ then_all e l ++ fs
before_both None l fs = refl
before_both (Some e) l fs = refl

are_same : (a b : List Event) → Some a ≡ Some b → a ≡ b
are_same a b h = cc

split_step : (o : Option (Option Event)) (p all : Option (List Event)) (es : List Event)
    → (o >>= λ e. all >>= λ l. Some (then_all e l)) ≡ Some es
    → ((l : List Event) → all ≡ Some l → (fs : List Event) × (gs : List Event) × (l ≡ fs ++ gs) × (p ≡ Some fs))
    → (fs : List Event) × (gs : List Event) × (es ≡ fs ++ gs) × ((o >>= λ e. p >>= λ l. Some (then_all e l)) ≡ Some fs)
split_step None p all es h k = absurd (cc h)
split_step (Some e) p None es h k = absurd (cc h)
split_step (Some e) p (Some l) es h k =
    let (fs, gs, parts, is) = k l refl in (
      then_all e fs,
      gs,
      sym (are_same (then_all e l) es h) ∙ (ap (then_all e) parts ∙ before_both e fs gs),
      rw is refl,
    )

split_events : (xs ys : List (List ℕ)) (es : List Event) → events_of (xs ++ ys) ≡ Some es
    → (fs : List Event) × (gs : List Event) × (es ≡ fs ++ gs) × (events_of xs ≡ Some fs)
unfolding events_of
split_events [] ys es h = ([], es, refl, refl)
split_events (x ∷ xs) ys es h = split_step (event_of x) (events_of xs) (events_of (xs ++ ys)) es h
    (λ l is. split_events xs ys l is)

-- If a script is truncated, its complete lines are a script of its first events.
pub cut_script : (c : Bool) (text cut lost : List ℕ) (es : List Event) → text ≡ cut ++ lost → IsScriptFrom c text es
    → (fs : List Event) × (gs : List Event) × (es ≡ fs ++ gs) × IsScriptFrom c (whole_lines cut) fs
cut_script c text cut lost es parts script =
    let whole = whole_lines cut in
    let rest = drop (length whole) cut ++ lost in
    let is : text ≡ whole ++ rest =
    parts ∙ (ap (λ (l : List ℕ). l ++ lost) (sym (whole_front cut)) ∙ append_assoc whole (drop (length whole) cut) lost) in
    let lines : expanded c (lines_of true text) ≡ expanded c (lines_of true whole) ++ expanded (c || marked whole) (lines_of true rest) =
    ap (λ (l : List (List ℕ)). expanded c l) (ap (lines_of true) is ∙ text_lines whole rest (whole_twice cut))
    ∙ expanded_both c (lines_of true whole) (lines_of true rest) in
    let (fs, gs, apart, first) =
    split_events (expanded c (lines_of true whole)) (expanded (c || marked whole) (lines_of true rest)) es
    (ap events_of (sym lines) ∙ script.1) in
    (fs, gs, apart, (whole_twice cut, first))

-- ## Recordings

abbrev EndsWhole : List ℕ → Type 0
EndsWhole text = IsWhole text × (has_line_feed text ≡ true)

or_true : (b : Bool) → (b || true) ≡ true
or_true true = refl
or_true false = refl

ends_more : (x y : List ℕ) → EndsWhole y → EndsWhole (x ++ y)
ends_more x y ends = (
  whole_before x y ends.1 ∙ ap (λ (l : List ℕ). x ++ l) ends.0,
  list_any-append (λ (b : ℕ). b == 10) x y ∙ (ap (λ (b : Bool). has_line_feed x || b) ends.1 ∙ or_true (has_line_feed x)),
)

feed_ends : EndsWhole (codes "\n")
unfolding whole_lines
feed_ends = (refl, refl)

tick_ends : EndsWhole (codes "tick\n")
unfolding whole_lines
tick_ends = (refl, refl)

datagram_ends : (source : Peer) (bytes : List ℕ) → EndsWhole (datagram_text source bytes)
datagram_ends source bytes =
    ends_more _ _ (ends_more (codes " ") _ (ends_more _ (codes "\n") feed_ends))

entry_ends : (entry : Entry) → EndsWhole (entry_line entry)
entry_ends (Happened (Control source bytes)) = ends_more (codes "control ") _ (datagram_ends source bytes)
entry_ends (Happened (Media port source bytes)) =
    ends_more (codes "rtp ") _ (ends_more _ _ (ends_more (codes " ") _ (datagram_ends source bytes)))
entry_ends (Happened Tick) = tick_ends
entry_ends (Noted text) = ends_more (codes "# ") _ (ends_more text (codes "\n") feed_ends)

recording_whole : (entries : List Entry) → IsWhole (recording_of entries)
recording_whole [] = whole_nil
recording_whole (entry ∷ entries) =
    whole_more (entry_line entry) (recording_of entries) (entry_ends entry).0 (recording_whole entries)

-- Whether or not ticks are counted, a line of a recording is a script of its event. The line of a comment is a script
-- without events.
pub entry_script : RecordingsAreRead → (c : Bool) (entry : Entry) → IsRecorded entry
    → IsScriptFrom c (entry_line entry) (events_in (entry ∷ []))
entry_script law c entry fits =
    let one : recording_of (entry ∷ []) ≡ entry_line entry = append-nil (entry_line entry) in
    subst (λ (l : List ℕ). IsScriptFrom c l (events_in (entry ∷ []))) one (
      recording_whole (entry ∷ []),
      script_same c (lines_of true (recording_of (entry ∷ []))) (events_in (entry ∷ []))
          (law (entry ∷ []) (All-cons IsRecorded entry [] fits (All-nil IsRecorded))),
    )

-- ## Appended text

pub no_text : IsScriptFrom true [] []
unfolding expanded events_of lines_after
no_text = (whole_nil, refl)

pub noted : RecordingsAreRead → (text comment part : List ℕ) (events : List Event) → comment ≡ codes "# " ++ (text ++ codes "\n")
    → length text ≤ 1000 → All (λ b. b ≢ 10) text → IsScriptFrom true part events → IsScriptFrom true (comment ++ part) events
noted law text comment part events line short plain script =
    script_more true comment part [] events
    (subst (λ (l : List ℕ). IsScriptFrom true l []) (sym line) (entry_script law true (Noted text) (short, plain))) script

commented : RecordingsAreRead → (comment part : List ℕ) (events : List Event)
    → (comment ≡ []) ⊎ (IsComment comment × (is_seal comment ≡ false)) → IsScriptFrom true part events
    → IsScriptFrom true (comment ++ part) events
commented law comment part events (inl none) script = subst (λ (l : List ℕ). IsScriptFrom true (l ++ part) events) (sym none) script
commented law comment part events (inr ((text, line, short, plain), other)) script = noted law text comment part events line short plain script

sealed : RecordingsAreRead → (known : Option (List ℕ)) (seal part : List ℕ) (events : List Event) → (seal ≡ []) ⊎ IsSeal known seal
    → IsScriptFrom true part events → IsScriptFrom true (seal ++ part) events
sealed law known seal part events (inl none) script = subst (λ (l : List ℕ). IsScriptFrom true (l ++ part) events) (sym none) script
sealed law known seal part events (inr (text, line, is)) script =
    let comment = seal_line text in
    noted law (seal_text text) seal part events (line ∙ comment.0) comment.1 comment.2 script

-- Appended lines are a script of their events, even if a seal and a comment come before them.
pub written : RecordingsAreRead → (known : Option (List ℕ)) (seal comment lines : List ℕ) (events : List Event)
    → (seal ≡ []) ⊎ IsSeal known seal → (comment ≡ []) ⊎ (IsComment comment × (is_seal comment ≡ false))
    → IsScriptFrom true lines events → IsScriptFrom true (seal ++ (comment ++ lines)) events
written law known seal comment lines events seals dated script =
    sealed law known seal (comment ++ lines) events seals (commented law comment lines events dated script)

-- The complete lines in a prefix of appended lines are a script of the first events.
pub written_front : (part : List ℕ) (events : List Event) (n : ℕ) → IsScriptFrom true part events
    → (first : List Event) × (others : List Event) × (events ≡ first ++ others) × IsScriptFrom true (whole_lines (take n part)) first
written_front part events n script =
    cut_script true part (take n part) (drop n part) events (sym (take-append-drop n part)) script

-- The line of a message is a script of this message.
pub message_script : RecordingsAreRead → (source : Peer) (bytes : List ℕ) → IsDatagram source bytes
    → IsScriptFrom true (event_line (Control source bytes)) (Control source bytes ∷ [])
message_script law source bytes fits = entry_script law true (Happened (Control source bytes)) fits

count_ends : (count : ℕ) → EndsWhole (ticks_line count)
count_ends count = ends_more (codes "ticks ") _ (ends_more (decimal count) (codes "\n") feed_ends)

-- The line of `count` ticks is a script of these ticks.
pub count_script : (count : ℕ) → 0 < count → count < 2 ^ 64 → IsScriptFrom true (ticks_line count) (replicate count Tick)
count_script count some small = ((count_ends count).0, count_is_ticks count some small)

-- Resuming a script: its notes, the bytes of its lines, and how far it was read.
use Rattle.std.proofs.Common.{◌≡◌, ℕ, zero, suc, ◌+◌, ◌*◌, ◌≤◌, Bool, true, false, ◌||◌, List, [], ◌∷◌, ◌++◌, length, codes, replicate, Option, Some, None, Err, refl, sym, ap, subst, ◌∙◌, append_assoc}
use Rattle.std.proofs.lemmas.List.{append-nil, replicate-append-replicate}
use Rattle.std.specs.List.{list_any}
use Rattle.std.specs.Option.{option_map}
use Rattle.mg_words.specs.OptionSteps.{◌>>=◌}
use Rattle.mg_core.specs.declared.event.Event.{Event}
use Rattle.mg_core.specs.declared.event.Event.TheVariants.{Tick}
use Rattle.mg_core.specs.declared.fault.LineFault.{LineFault}
use Rattle.mg_core.specs.declared.fault.LineFault.TheVariants as faults
use Rattle.mg_core.specs.declared.state.CoreState.{CoreState}
use Rattle.mg_core.specs.Follow.{HasRun, ticks_of}
use Rattle.mg_core.specs.Headline.{ExtendsByTicks, ExtendsHistory, HasHistory}
use Rattle.mg_core.specs.Note.{Note, Comment, Happened, NotesHaveEvents, events_in, noted, notes_of}
use Rattle.mg_core.specs.Counted.{expanded, is_mark, lines_in}
use Rattle.mg_core.specs.aids.Resume.{IsBadAfter}
use Rattle.mg_core.specs.Script.{event_of, events_of, then_all}
use Rattle.mg_core.specs.Step.{Sent}
use Rattle.mg_core.specs.World.{World}
use Rattle.mg_core.specs.aids.Resuming.{Adds, AreGood, IsBadLine, KeepsLines, KeepsUp, LinesResumed, Resumes, counted_in}
use Rattle.mg_core.proofs.ReadBackLemmas.{tick_read}
use Rattle.mg_core.proofs.CountedLemmas.{counted_line, counts_no_mark, expanded_both, expanded_more, expanded_one, long_plain, marks_more, marks_same, plain_line, tens_expanded, tens_unmarked, ticks_stay, ticks_unmarked}
use Rattle.mg_core.proofs.SplitLemmas.{long_bad}

-- ## The notes of lines

line_has_event : (line : List ℕ) (event : Option (Option Event)) (notes : Option (List Note)) →
    option_map events_in (option_map (noted line) event >>= λ note. notes >>= λ l. Some (note ∷ l)) ≡
    (event >>= λ e. option_map events_in notes >>= λ l. Some (then_all e l))
line_has_event line None notes = refl
line_has_event line (Some e) None = refl
line_has_event line (Some None) (Some l) = refl
line_has_event line (Some (Some e)) (Some l) = refl

pub notes_have_events : NotesHaveEvents
unfolding notes_of events_of
notes_have_events [] = refl
notes_have_events (line ∷ lines) = line_has_event line (event_of line) (notes_of lines)
    ∙ ap (λ (o : Option (List Event)). event_of line >>= λ e. o >>= λ l. Some (then_all e l)) (notes_have_events lines)

pub events_of_notes : (lines : List (List ℕ)) (notes : List Note) → notes_of lines ≡ Some notes →
    events_of lines ≡ Some (events_in notes)
events_of_notes lines notes are = sym (notes_have_events lines) ∙ ap (option_map events_in) are

abbrev notes_are : List Note → Option (List Note)
notes_are notes = Some notes

same_notes : (a b : List Note) → notes_are a ≡ notes_are b → a ≡ b
same_notes a b h = cc h

notes_step : (o : Option Note) (p all : Option (List Note)) (a b : List Note) →
    (o >>= λ note. p >>= λ l. Some (note ∷ l)) ≡ Some a → ((l : List Note) → p ≡ Some l → all ≡ Some (l ++ b)) →
    (o >>= λ note. all >>= λ l. Some (note ∷ l)) ≡ Some (a ++ b)
notes_step None p all a b h k = absurd (cc h)
notes_step (Some note) None all a b h k = absurd (cc h)
notes_step (Some note) (Some l) all a b h k =
    rw (k l refl) (ap notes_are (ap (λ (x : List Note). x ++ b) (same_notes (note ∷ l) a h)))

notes_both : (xs ys : List (List ℕ)) (a b : List Note) → notes_of xs ≡ Some a → notes_of ys ≡ Some b →
    notes_of (xs ++ ys) ≡ Some (a ++ b)
unfolding notes_of
notes_both [] ys a b h k = k ∙ ap (λ (x : List Note). notes_are (x ++ b)) (same_notes [] a h)
notes_both (x ∷ xs) ys a b h k = notes_step (option_map (noted x) (event_of x)) (notes_of xs) (notes_of (xs ++ ys)) a b h
    (λ l is. notes_both xs ys l b is k)

one_note : (line : List ℕ) (e : Option Event) → event_of line ≡ Some e → notes_of (line ∷ []) ≡ Some (noted line e ∷ [])
unfolding notes_of
one_note line e is = rw is refl

-- ## The events of notes

events_in_both : (a b : List Note) → events_in (a ++ b) ≡ events_in a ++ events_in b
events_in_both [] b = refl
events_in_both (Comment line ∷ a) b = events_in_both a b
events_in_both (Happened event ∷ a) b = ap (λ (l : List Event). event ∷ l) (events_in_both a b)

events_in_ticks : (n : ℕ) → events_in (ticks_of n) ≡ replicate n Tick
events_in_ticks zero = refl
events_in_ticks (suc n) = ap (λ (l : List Event). Tick ∷ l) (events_in_ticks n)

-- The state is that of a gateway at which these events arrived.
abbrev HasRunEvents : World → CoreState → List Event → Type 0
HasRunEvents base state events = (sent : List Sent) × (w : World) × HasHistory base events sent w state

run_event : (base : World) (old new : CoreState) (event : Event) (sent : List Sent) (notes : List Note) →
    ExtendsHistory old new event sent → HasRun base notes old → HasRun base (notes ++ Happened event ∷ []) new
run_event base old new event sent notes extends (before, w, history) =
    let (next, after) = extends base (events_in notes) before w history in
    subst (HasRunEvents base new) (sym (events_in_both notes (Happened event ∷ [])))
    (before ++ sent, next, after)

run_ticks : (base : World) (old new : CoreState) (n : ℕ) (notes : List Note) → ExtendsByTicks old new n →
    HasRun base notes old → HasRun base (notes ++ ticks_of n) new
run_ticks base old new n notes extends (before, w, history) =
    let (sent, next, after) = extends base (events_in notes) before w history in
    subst (HasRunEvents base new)
    (sym (events_in_both notes (ticks_of n) ∙ ap (λ (l : List Event). events_in notes ++ l) (events_in_ticks n)))
    (before ++ sent, next, after)

run_comment : (base : World) (state : CoreState) (line : List ℕ) (notes : List Note) → HasRun base notes state →
    HasRun base (notes ++ Comment line ∷ []) state
run_comment base state line notes run =
    subst (HasRunEvents base state) (sym (events_in_both notes (Comment line ∷ []) ∙ append-nil (events_in notes))) run

-- ## A follower and pending ticks

module _ (base : World) where
  pub up_to_date : (state : CoreState) (n : ℕ) (Follows : List Note → Type 0) (notes : List Note) → n ≡ 0 →
      HasRun base notes state → Follows notes → KeepsUp base state n Follows notes
  up_to_date state n Follows notes none run follows = record {
    past = notes;
    parts = sym (append-nil notes) ∙ ap (λ (k : ℕ). notes ++ ticks_of k) (sym none);
    run = run;
    follows = follows;
  }

  pub caught_up : (state : CoreState) (Follows : List Note → Type 0) (notes : List Note) →
      KeepsUp base state 0 Follows notes → HasRun base notes state × Follows notes
  caught_up state Follows notes h =
      let same = sym (h.parts ∙ append-nil h.past) in
      (subst (λ (l : List Note). HasRun base l state) same h.run, subst Follows same h.follows)

  pub ticks_added : (old new : CoreState) (n m k : ℕ) (Follows : List Note → Type 0) → new ≡ old → m ≡ n + k →
      Adds (KeepsUp base old n Follows) (KeepsUp base new m Follows) (ticks_of k)
  ticks_added old new n m k Follows same more notes h = record {
    past = h.past;
    parts = ap (λ (l : List Note). l ++ ticks_of k) h.parts
        ∙ append_assoc h.past (ticks_of n) (ticks_of k)
        ∙ ap (λ (l : List Note). h.past ++ l) (replicate-append-replicate n k (Happened Tick)
        ∙ ap ticks_of (sym more));
    run = subst (λ (state : CoreState). HasRun base h.past state) (sym same) h.run;
    follows = h.follows;
  }

  pub ticks_followed : (old new : CoreState) (n : ℕ) (Old New : List Note → Type 0) (notes : List Note) →
      ((past : List Note) → Old past → HasRun base past old → New (past ++ ticks_of n)) → ExtendsByTicks old new n →
      KeepsUp base old n Old notes → KeepsUp base new 0 New notes
  ticks_followed old new n Old New notes tell extends h =
      up_to_date new 0 New notes refl
      (subst (λ (l : List Note). HasRun base l new) (sym h.parts) (run_ticks base old new n h.past extends h.run))
      (subst New (sym h.parts) (tell h.past h.follows h.run))

  pub datagram_followed : (old mid new : CoreState) (n m : ℕ) (Old Mid New : List Note → Type 0) (event : Event)
      (sent : List Sent) →
      ((notes : List Note) → KeepsUp base old n Old notes → KeepsUp base mid 0 Mid notes) →
      ExtendsHistory mid new event sent → m ≡ 0 →
      ((notes : List Note) → Mid notes → HasRun base (notes ++ Happened event ∷ []) new →
      New (notes ++ Happened event ∷ [])) →
      Adds (KeepsUp base old n Old) (KeepsUp base new m New) (Happened event ∷ [])
  datagram_followed old mid new n m Old Mid New event sent flush extends none tell notes h =
      let (run, follows) = caught_up mid Mid notes (flush notes h) in
      let after = run_event base mid new event sent notes extends run in
      up_to_date new m New (notes ++ Happened event ∷ []) none after (tell notes follows after)

  pub comment_followed : (old new : CoreState) (n m : ℕ) (Old Mid New : List Note → Type 0) (line : List ℕ) →
      ((notes : List Note) → KeepsUp base old n Old notes → KeepsUp base new 0 Mid notes) → m ≡ 0 →
      ((notes : List Note) → Mid notes → New (notes ++ Comment line ∷ [])) →
      Adds (KeepsUp base old n Old) (KeepsUp base new m New) (Comment line ∷ [])
  comment_followed old new n m Old Mid New line flush none tell notes h =
      let (run, follows) = caught_up new Mid notes (flush notes h) in
      up_to_date new m New (notes ++ Comment line ∷ []) none (run_comment base new line notes run)
      (tell notes follows)

-- ## Lines that were run

pub lines_start : (base : World) (state : CoreState) (c : Bool) (n : ℕ) (Follows : List Note → Type 0) → n ≡ 0 →
    c ≡ false → HasRun base [] state → Follows [] → KeepsLines base state c n Follows []
unfolding expanded notes_of
lines_start base state c n Follows none is run follows =
    record { notes = []; are = refl; counted = is; keeps = up_to_date base state n Follows [] none run follows }

pub resumes_err : (s : Bool) (A B : Type 0) (P Q : ℕ → Type 0) (e : LineFault) → ((k : ℕ) → P k → Q k) →
    Resumes s A P (Err e) → Resumes s B Q (Err e)
resumes_err s A B P Q (faults.Bad k) f h = f k h
resumes_err s A B P Q faults.Write f h = h
resumes_err s A B P Q faults.NoMemory f h = tt

-- If a line is valid and its note was appended, the line was run.
pub line_resumed : (Old New : List Note → Type 0) (line : List ℕ) (e : Option Event) → event_of line ≡ Some e →
    Adds Old New (noted line e ∷ []) → LinesResumed Old New (line ∷ [])
line_resumed Old New line e is adds =
    record { notes = noted line e ∷ []; are = one_note line e is; adds = adds }

pub no_lines : (Old : List (List ℕ) → Type 0) → Adds Old Old []
no_lines Old before old = subst Old (sym (append-nil before)) old

pub lines_then : (Old Mid New : List (List ℕ) → Type 0) (xs ys : List (List ℕ)) → Adds Old Mid xs → Adds Mid New ys →
    Adds Old New (xs ++ ys)
lines_then Old Mid New xs ys h k before old =
    subst New (append_assoc before xs ys) (k (before ++ xs) (h before old))

notes_of_ticks : (k : ℕ) → notes_of (replicate k (codes "tick")) ≡ Some (ticks_of k)
unfolding notes_of
notes_of_ticks zero = refl
notes_of_ticks (suc k) = notes_both (codes "tick" ∷ []) (replicate k (codes "tick")) (Happened Tick ∷ []) (ticks_of k)
    (one_note (codes "tick") (Some Tick) tick_read) (notes_of_ticks k)

-- ## Lines that were read

module _ (base : World) (old new : CoreState) (c d : Bool) (n m : ℕ) (Old New : List Note → Type 0) where
  abbrev Before : List (List ℕ) → Type 0
  Before lines = KeepsLines base old c n Old lines

  abbrev After : List (List ℕ) → Type 0
  After lines = KeepsLines base new d m New lines

  -- If a line counts no ticks and was run, the line was read.
  pub plain_read : (line : List ℕ) → counted_in c line ≡ None → d ≡ (c || is_mark line) →
      LinesResumed (KeepsUp base old n Old) (KeepsUp base new m New) (line ∷ []) → Adds Before After (line ∷ [])
  plain_read line none is r before h =
      let plain : lines_in (list_any is_mark before) line ≡ line ∷ [] =
      ap (λ (b : Bool). lines_in b line) (sym h.counted) ∙ plain_line c line none in
      record {
        notes = h.notes ++ r.notes;
        are = ap notes_of (expanded_more before line ∙ ap (λ (l : List (List ℕ)). expanded false before ++ l) plain)
            ∙ notes_both (expanded false before) (line ∷ []) h.notes r.notes h.are r.are;
        counted = is ∙ ap (λ (b : Bool). b || is_mark line) h.counted ∙ sym (marks_more before line);
        keeps = r.adds h.notes h.keeps;
      }

  -- Suppose lines are read as `k` `tick` lines, and contain no mark. If these ticks were appended, the lines were read.
  ticks_come : (lines : List (List ℕ)) (k : ℕ) → expanded c lines ≡ replicate k (codes "tick") →
      list_any is_mark lines ≡ false → d ≡ c → Adds (KeepsUp base old n Old) (KeepsUp base new m New) (ticks_of k) →
      Adds Before After lines
  ticks_come lines k are none is adds before h =
      let same : expanded (list_any is_mark before) lines ≡ replicate k (codes "tick") =
      ap (λ (b : Bool). expanded b lines) (sym h.counted) ∙ are in
      record {
        notes = h.notes ++ ticks_of k;
        are = ap notes_of (expanded_both false before lines
            ∙ ap (λ (l : List (List ℕ)). expanded false before ++ l) same)
            ∙ notes_both (expanded false before) (replicate k (codes "tick")) h.notes (ticks_of k) h.are (notes_of_ticks k);
        counted = is ∙ h.counted ∙ sym (marks_same before lines none);
        keeps = adds h.notes h.keeps;
      }

  -- If the ticks that a line counts were appended, the line was read.
  pub count_read : (line : List ℕ) (k : ℕ) → counted_in c line ≡ Some k → d ≡ c →
      Adds (KeepsUp base old n Old) (KeepsUp base new m New) (ticks_of k) → Adds Before After (line ∷ [])
  count_read line k counted is adds =
      ticks_come (line ∷ []) k (expanded_one c line ∙ counted_line c line k counted)
      (marks_more [] line ∙ counts_no_mark c line k counted) is adds

  -- If `k` ticks were appended, `k` `tick` lines were read.
  pub ticks_read : (k : ℕ) → d ≡ c → Adds (KeepsUp base old n Old) (KeepsUp base new m New) (ticks_of k) →
      Adds Before After (replicate k (codes "tick"))
  ticks_read k is adds = ticks_come (replicate k (codes "tick")) k (ticks_stay k c) (ticks_unmarked k) is adds

  -- If ticks are counted, and `10 * k` ticks were appended, `k` lines `ticks 10` were read.
  pub tens_read : (k : ℕ) → c ≡ true → d ≡ c →
      Adds (KeepsUp base old n Old) (KeepsUp base new m New) (ticks_of (10 * k)) →
      Adds Before After (replicate k (codes "ticks 10"))
  tens_read k counts is adds =
      let lines = replicate k (codes "ticks 10") in
      ticks_come lines (10 * k) (ap (λ (b : Bool). expanded b lines) counts ∙ tens_expanded k) (tens_unmarked k) is adds

-- Lines that were read are good.
pub good : (base : World) (state : CoreState) (c : Bool) (n : ℕ) (Follows : List Note → Type 0)
    (lines : List (List ℕ)) → KeepsLines base state c n Follows lines → AreGood lines
good base state c n Follows lines h = (h.notes, h.are)

-- ## Bad lines

no_event : (o : Option (Option Event)) (all : Option (List Event)) → all ≡ None →
    (o >>= λ e. all >>= λ l. Some (then_all e l)) ≡ None
no_event None all none = refl
no_event (Some e) all none = rw none refl

first_bad : (line : List ℕ) (o : Option (Option Event)) → o ≡ None →
    (o >>= λ e. events_of [] >>= λ l. Some (then_all e l)) ≡ None
first_bad line None none = refl
first_bad line (Some e) none = absurd (cc none)

events_bad : (xs : List (List ℕ)) (line : List ℕ) → event_of line ≡ None → events_of (xs ++ line ∷ []) ≡ None
unfolding events_of
events_bad [] line bad = first_bad line (event_of line) bad
events_bad (x ∷ xs) line bad = no_event (event_of x) (events_of (xs ++ line ∷ [])) (events_bad xs line bad)

bad_after_lines : (before : List (List ℕ)) (line : List ℕ) → event_of line ≡ None →
    counted_in (list_any is_mark before) line ≡ None → IsBadAfter before line
bad_after_lines before line bad none =
    ap events_of (expanded_more before line
    ∙ ap (λ (l : List (List ℕ)). expanded false before ++ l) (plain_line (list_any is_mark before) line none))
    ∙ events_bad (expanded false before) line bad

-- A line that is no script line and counts no ticks is bad.
pub plain_bad : (base : World) (state : CoreState) (c : Bool) (n : ℕ) (Follows : List Note → Type 0) (line : List ℕ) →
    counted_in c line ≡ None → event_of line ≡ None → IsBadLine (KeepsLines base state c n Follows) line
plain_bad base state c n Follows line none bad before h =
    bad_after_lines before line bad (ap (λ (b : Bool). counted_in b line) (sym h.counted) ∙ none)

pub too_long : (Old : List (List ℕ) → Type 0) (line : List ℕ) → 140001 ≤ length line → IsBadLine Old line
too_long Old line long before old =
    bad_after_lines before line (long_bad line long) (long_plain (list_any is_mark before) line long)

-- A recording is a script of its events.
use Rattle.std.proofs.Common.{◌≡◌, ◌≢◌, ◌⊎◌, inl, inr, ℕ, suc, ◌-◌, ◌≤◌, Bool, true, false, cond, eqb, List, [], ◌∷◌, ◌++◌, length, take, slice_index, Option, Some, None, All, refl, sym, ap, subst, ◌∙◌, append_assoc, append-nil, length-take, arith, codes}
use Rattle.std.proofs.lemmas.Bool.{ne_eqb, and_parts, and_from, not-true, not_from_false}
use Rattle.std.proofs.lemmas.List.Elements.{All-head, All-tail}
use Rattle.std.specs.List.{list_all}
use Rattle.mg_lines.specs.Lines.{without_return, lines_after, lines_of}
use Rattle.mg_core.specs.declared.event.Event.{Event}
use Rattle.mg_core.specs.declared.event.Event.TheVariants.{Control, Media, Tick}
use Rattle.mg_core.specs.Script.{event_of, events_of, then_all}
use Rattle.mg_core.specs.Recording.{Entry, Happened, Noted, entry_line, recording_of, events_in, IsRecorded, RecordingsAreRead, CutRecordingsAreRead}
use Rattle.mg_core.proofs.ReadBackLemmas.{is_not, at_passes, no_feed, no_return, event_text, event_passes, event_read, comment_read}

-- ## Lines

-- If text starts with a line and its line feed, the lines of the text are this line and the lines of the rest.
pub line_then : (ended : Bool) (partial line rest : List ℕ) → list_all (is_not 10) line ≡ true →
    lines_after ended partial (line ++ 10 ∷ rest) ≡ without_return (partial ++ line) ∷ lines_after ended [] rest
unfolding lines_after
line_then ended partial [] rest h =
    ap (λ (l : List ℕ). without_return l ∷ lines_after ended [] rest) (sym (append-nil partial))
line_then ended partial (b ∷ bs) rest h =
    let two = and_parts (is_not 10 b) (list_all (is_not 10) bs) h in
    let grown : lines_after ended (partial ++ b ∷ []) (bs ++ 10 ∷ rest) ≡
    without_return (partial ++ b ∷ bs) ∷ lines_after ended [] rest =
    line_then ended (partial ++ b ∷ []) bs rest two.1 ∙
    ap (λ (l : List ℕ). without_return l ∷ lines_after ended [] rest) (append_assoc partial (b ∷ []) bs) in
    rw (not-true (eqb b 10) two.0) grown

-- Text without a line feed has no complete line.
none_whole : (partial front : List ℕ) → list_all (is_not 10) front ≡ true → lines_after false partial front ≡ []
unfolding lines_after
none_whole partial [] h = either (eqb (length partial) 0)
  where
    none : List (List ℕ)
    none = []

    either : (q : Bool) → cond q none none ≡ none
    either true = refl
    either false = refl
none_whole partial (b ∷ bs) h =
    let two = and_parts (is_not 10 b) (list_all (is_not 10) bs) h in
    rw (not-true (eqb b 10) two.0) (none_whole (partial ++ b ∷ []) bs two.1)

-- `without_return` does not change a line without carriage returns.
pub whole_line : (line : List ℕ) → list_all (is_not 13) line ≡ true → without_return line ≡ line
whole_line line h =
    rw (not-true (eqb (slice_index line (length line - 1)) 13) (at_passes (is_not 13) line (length line - 1) refl h))
    refl

-- The place where text is truncated: in its first line, or after that line.
abbrev CutIn : (line more front rest : List ℕ) → Type 0
CutIn line more front rest =
    (list_all (is_not 10) front ≡ true) ⊎
    ((back : List ℕ) × (front ≡ line ++ 10 ∷ back) × (more ≡ back ++ rest))

cut_further : (b : ℕ) (line more front rest : List ℕ) → is_not 10 b ≡ true → CutIn line more front rest →
    CutIn (b ∷ line) more (b ∷ front) rest
cut_further b line more front rest h (inl plain) = inl (and_from (is_not 10 b) (list_all (is_not 10) front) h plain)
cut_further b line more front rest h (inr (back, parts, left)) = inr (back, ap (λ (l : List ℕ). b ∷ l) parts, left)

cut_in : (line more front rest : List ℕ) → list_all (is_not 10) line ≡ true → line ++ 10 ∷ more ≡ front ++ rest →
    CutIn line more front rest
cut_in line more [] rest h e = inl refl
cut_in [] more (x ∷ front) rest h e =
    let feed : 10 ≡ x = cc in
    let left : more ≡ front ++ rest = cc in
    inr (front, ap (λ (b : ℕ). b ∷ front) (sym feed), left)
cut_in (b ∷ line) more (x ∷ front) rest h e =
    let same : b ≡ x = cc in
    let left : line ++ 10 ∷ more ≡ front ++ rest = cc in
    let two = and_parts (is_not 10 b) (list_all (is_not 10) line) h in
    rw (← same) (cut_further b line more front rest two.0 (cut_in line more front rest two.1 left))

-- ## Entries

-- The line of an entry, without its line feed.
abbrev entry_text : Entry → List ℕ
entry_text (Happened event) = event_text event
entry_text (Noted text) = codes "# " ++ text

-- The event of an entry, or `None` if the entry is a comment.
abbrev event_in : Entry → Option Event
event_in (Happened event) = Some event
event_in (Noted text) = None

events_in_then : (entry : Entry) (entries : List Entry) →
    events_in (entry ∷ entries) ≡ then_all (event_in entry) (events_in entries)
events_in_then (Happened event) entries = refl
events_in_then (Noted text) entries = refl

entry_then : (entry : Entry) (rest : List ℕ) → entry_line entry ++ rest ≡ entry_text entry ++ 10 ∷ rest
entry_then (Happened (Control source bytes)) rest = simp append_assoc
entry_then (Happened (Media port source bytes)) rest = simp append_assoc
entry_then (Happened Tick) rest = refl
entry_then (Noted text) rest = simp append_assoc

no_feeds : (text : List ℕ) → All (λ b. b ≢ 10) text → list_all (is_not 10) text ≡ true
no_feeds [] h = refl
no_feeds (b ∷ bs) h =
    let first = not_from_false (eqb b 10) (ne_eqb b 10 (All-head (λ b. b ≢ 10) b bs h)) in
    and_from (is_not 10 b) (list_all (is_not 10) bs) first (no_feeds bs (All-tail (λ b. b ≢ 10) b bs h))

entry_goes_on : (entry : Entry) → IsRecorded entry → list_all (is_not 10) (entry_text entry) ≡ true
entry_goes_on (Happened event) r = event_passes (is_not 10) no_feed event r
entry_goes_on (Noted text) r = no_feeds text r.1

-- A comment is parsed as one, with or without a carriage return at its end.
note_read : (text : List ℕ) → length text ≤ 1000 → event_of (without_return (35 ∷ 32 ∷ text)) ≡ Some None
note_read text short = either (eqb (slice_index (35 ∷ 32 ∷ text) (length (35 ∷ 32 ∷ text) - 1)) 13)
    (length (35 ∷ 32 ∷ text) - 1) (length text) (omega arith)
  where
    either : (q : Bool) (n k : ℕ) → n ≡ suc k → event_of (cond q (take n (35 ∷ 32 ∷ text)) (35 ∷ 32 ∷ text)) ≡
        Some None
    either true n k e =
        rw e (comment_read (take k (32 ∷ text)) (omega (arith, length-take k (32 ∷ text))))
    either false n k e = comment_read (32 ∷ text) (omega arith)

entry_read : (entry : Entry) → IsRecorded entry →
    event_of (without_return (entry_text entry)) ≡ Some (event_in entry)
entry_read (Happened event) r =
    ap event_of (whole_line (event_text event) (event_passes (is_not 13) no_return event r)) ∙ event_read event r
entry_read (Noted text) r = note_read text r.0

-- ## Recordings

events_then : (line : List ℕ) (lines : List (List ℕ)) (event : Option Event) (events : List Event) →
    event_of line ≡ Some event → events_of lines ≡ Some events →
    events_of (line ∷ lines) ≡ Some (then_all event events)
unfolding events_of
events_then line lines event events h k = rw (h, k) refl

-- If an entry is put in front of some text, the entry's event, if there is one, comes before the events of the text.
entry_lines : (ended : Bool) (entry : Entry) (rest : List ℕ) (events : List Event) → IsRecorded entry →
    events_of (lines_after ended [] rest) ≡ Some events →
    events_of (lines_after ended [] (entry_text entry ++ 10 ∷ rest)) ≡ Some (then_all (event_in entry) events)
entry_lines ended entry rest events r h =
    ap events_of (line_then ended [] (entry_text entry) rest (entry_goes_on entry r)) ∙
    events_then (without_return (entry_text entry)) (lines_after ended [] rest) (event_in entry) events
    (entry_read entry r) h

nothing_read : (ended : Bool) → events_of (lines_after ended [] []) ≡ Some []
unfolding lines_after events_of
nothing_read ended = refl

pub recordings_are_read : RecordingsAreRead
recordings_are_read [] all = nothing_read true
recordings_are_read (entry ∷ entries) all =
    let first = All-head IsRecorded entry entries all in
    let others = recordings_are_read entries (All-tail IsRecorded entry entries all) in
    ap (λ (text : List ℕ). events_of (lines_after true [] text)) (entry_then entry (recording_of entries)) ∙
    entry_lines true entry (recording_of entries) (events_in entries) first others ∙
    ap Some (sym (events_in_then entry entries))

-- The complete lines in the prefix of a recording are a script of the first entries' events.
abbrev IsFrontRead : List Entry → List ℕ → Type 0
IsFrontRead entries front =
    (first : List Entry) × (others : List Entry) × (entries ≡ first ++ others)
    × (events_of (lines_of false front) ≡ Some (events_in first))

none_read : (entries : List Entry) (front : List ℕ) → list_all (is_not 10) front ≡ true → IsFrontRead entries front
unfolding events_of
none_read entries front h = ([], entries, refl, ap events_of (none_whole [] front h))

one_more_read : (entry : Entry) (entries : List Entry) (back : List ℕ) → IsRecorded entry → IsFrontRead entries back →
    IsFrontRead (entry ∷ entries) (entry_text entry ++ 10 ∷ back)
one_more_read entry entries back r (first, others, parts, read) = (
  entry ∷ first,
  others,
  ap (λ (l : List Entry). entry ∷ l) parts,
  entry_lines false entry back (events_in first) r read ∙ ap Some (sym (events_in_then entry first)),
)

empty_front : (front rest : List ℕ) → [] ≡ front ++ rest → list_all (is_not 10) front ≡ true
empty_front [] rest e = refl
empty_front (b ∷ front) rest e = cc

pub cut_recordings_are_read : CutRecordingsAreRead
cut_recordings_are_read [] front rest all e = none_read [] front (empty_front front rest e)
cut_recordings_are_read (entry ∷ entries) front rest all e =
    let r = All-head IsRecorded entry entries all in
    let parts : entry_text entry ++ 10 ∷ recording_of entries ≡ front ++ rest =
    sym (entry_then entry (recording_of entries)) ∙ e in
    elim (cut_in (entry_text entry) (recording_of entries) front rest (entry_goes_on entry r) parts) [
      | inl plain ↦ none_read (entry ∷ entries) front plain
      | inr after ↦
          let left = cut_recordings_are_read entries after.0 rest (All-tail IsRecorded entry entries all) after.2 in
          subst (IsFrontRead (entry ∷ entries)) (sym after.1) (one_more_read entry entries after.0 r left)
    ]

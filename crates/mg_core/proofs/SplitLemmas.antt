-- Splitting bytes into lines.
use Rattle.std.proofs.Common.{◌≡◌, ◌≢◌, ℕ, suc, ◌+◌, ◌-◌, ◌<◌, ◌≤◌, Bool, true, false, cond, eqb, List, [], ◌∷◌, ◌++◌, length, get_or, take, drop, None, refl, sym, ap, ◌∙◌, append_assoc, length-append, length-take, arith}
use Rattle.std.proofs.lemmas.List.{append-nil, take-append-drop, drop_more}
use Rattle.std.proofs.lemmas.Bool.{ne_eqb, lt-ltb}
use Rattle.std.specs.Prelude.{slice_index}
use Rattle.mg_lines.specs.Lines.{without_return, lines_after}
use Rattle.mg_core.specs.Run.{HasBadAfter}
use Rattle.mg_core.specs.Script.{event_of}

pub one_byte : (ended : Bool) (x : ℕ) (partial bytes : List ℕ) → x ≢ 10 →
    lines_after ended partial (x ∷ bytes) ≡ lines_after ended (partial ++ x ∷ []) bytes
unfolding lines_after
one_byte ended x partial bytes ne = rw (ne_eqb x 10 ne) refl

pub line_feed : (ended : Bool) (partial bytes : List ℕ) →
    lines_after ended partial (10 ∷ bytes) ≡ without_return partial ∷ lines_after ended [] bytes
unfolding lines_after
line_feed ended partial bytes = refl

pub regroup : (front : List ℕ) (x : ℕ) (rest : List ℕ) → (front ++ x ∷ []) ++ rest ≡ front ++ (x ∷ rest)
regroup front x rest = append_assoc front (x ∷ []) rest

-- A line feed after the first bytes ends the partial line, and the next line starts after the line feed.
pub at_feed : (ended : Bool) (partial front left back more : List ℕ) (lines : List (List ℕ)) →
    ((ended : Bool) (more : List ℕ) → lines_after ended partial (front ++ more) ≡ lines ++ lines_after ended left more)
    → lines_after ended partial ((front ++ (10 ∷ back)) ++ more) ≡ lines ++ without_return left ∷
    lines_after ended [] (back ++ more)
at_feed ended partial front left back more lines h =
    ap (lines_after ended partial) (append_assoc front (10 ∷ back) more) ∙ h ended (10 ∷ (back ++ more)) ∙
    ap (λ (l : List (List ℕ)). lines ++ l) (line_feed ended left (back ++ more))

-- If no text follows the bytes, a line feed after the first bytes also ends the partial line.
pub at_last_feed : (partial front left back : List ℕ) (lines : List (List ℕ)) →
    ((ended : Bool) (more : List ℕ) → lines_after ended partial (front ++ more) ≡ lines ++ lines_after ended left more)
    → lines_after false partial (front ++ (10 ∷ back)) ≡ lines ++ without_return left ∷ lines_after false [] back
at_last_feed partial front left back lines h =
    h false (10 ∷ back) ∙ ap (λ (l : List (List ℕ)). lines ++ l) (line_feed false left back)

-- A line that is too long is bad, with or without a carriage return.
pub long_bad : (line : List ℕ) → 140001 ≤ length line → event_of line ≡ None
unfolding event_of
long_bad line le = rw (lt-ltb 140000 (length line) (omega arith)) refl

return_long : (t : Bool) (line : List ℕ) (n : ℕ) → n + 1 ≤ length line →
    n ≤ length (cond t (take (length line - 1) line) line)
return_long true line n le = omega (arith, length-take (length line - 1) line)
return_long false line n le = omega arith

-- The first line in this list is too long.
pub record StartsLong (lines : List (List ℕ)) : Type 0 where
  pub bad : List ℕ
  pub others : List (List ℕ)
  pub parts : lines ≡ bad ∷ others
  pub long : 140001 ≤ length bad

long_step : (t : Bool) (partial : List ℕ) (x : ℕ) (bytes : List ℕ) → eqb x 10 ≡ t → 140002 ≤ length partial →
    StartsLong (lines_after true (partial ++ x ∷ []) bytes) → StartsLong (lines_after true partial (x ∷ bytes))
unfolding lines_after
long_step true partial x bytes e le h =
    rw e (record {
      bad = without_return partial;
      others = lines_after true [] bytes;
      parts = refl;
      long = return_long (eqb (slice_index partial (length partial - 1)) 13) partial 140001 (omega arith);
    })
long_step false partial x bytes e le h = rw e h

pub long_first : (partial bytes : List ℕ) → 140002 ≤ length partial → StartsLong (lines_after true partial bytes)
unfolding lines_after
long_first partial [] le = rw (ne_eqb (length partial) 0 (λ e. absurd (omega arith)))
    (record { bad = partial; others = []; parts = refl; long = omega arith })
long_first partial (x ∷ bytes) le = long_step (eqb x 10) partial x bytes refl le
    (long_first (partial ++ x ∷ []) bytes (omega (arith, length-append partial (x ∷ []))))

pub long_line : (partial bytes : List ℕ) → 140002 ≤ length partial → HasBadAfter [] (lines_after true partial bytes)
long_line partial bytes le =
    let h = long_first partial bytes le in
    record { bad = h.bad; others = h.others; parts = h.parts; is_bad = long_bad h.bad h.long }

-- If a bad line follows some lines, it also follows these lines together with the lines before them.
pub bad_later : (before lines others all : List (List ℕ)) → all ≡ before ++ others → HasBadAfter lines others →
    HasBadAfter (before ++ lines) all
bad_later before lines others all is h = record {
  bad = h.bad;
  others = h.others;
  parts = is ∙ ap (λ (l : List (List ℕ)). before ++ l) h.parts ∙ sym (append_assoc before lines (h.bad ∷ h.others));
  is_bad = h.is_bad;
}

pub unfinished : (partial : List ℕ) → lines_after false partial [] ≡ []
unfolding lines_after
unfinished [] = refl
unfinished (b ∷ bs) = rw (ne_eqb (length (b ∷ bs)) 0 (λ e. absurd (omega (arith, e)))) refl

-- At the end of a script, a non-empty partial line is the last line.
pub last_line : (b : ℕ) (bs : List ℕ) → lines_after true (b ∷ bs) [] ≡ (b ∷ bs) ∷ []
unfolding lines_after
last_line b bs = rw (ne_eqb (length (b ∷ bs)) 0 (λ e. absurd (omega arith))) refl

pub no_line : lines_after true [] [] ≡ []
unfolding lines_after
no_line = refl

-- Bytes without a line feed extend the partial line.
pub unbroken : (text : List ℕ) → ((k : ℕ) → k < length text → get_or text k 0 ≢ 10) → (ended : Bool)
    (partial more : List ℕ) → lines_after ended partial (text ++ more) ≡ lines_after ended (partial ++ text) more
unbroken [] h ended partial more = ap (λ (l : List ℕ). lines_after ended l more) (sym (append-nil partial))
unbroken (x ∷ text) h ended partial more =
    one_byte ended x partial (text ++ more) (h 0 (omega arith))
    ∙ unbroken text (λ k lt. h (suc k) (omega arith)) ended (partial ++ x ∷ []) more
    ∙ ap (λ (l : List ℕ). lines_after ended l more) (regroup partial x text)

-- Bytes consist of those before an index, the byte at the index, and those after it.
pub around : (bytes : List ℕ) (i : ℕ) → i < length bytes → take i bytes ++ (get_or bytes i 0 ∷ drop (i + 1) bytes) ≡ bytes
around bytes i lt = ap (λ (l : List ℕ). take i bytes ++ l) (sym (drop_more bytes i 0 lt)) ∙ take-append-drop i bytes

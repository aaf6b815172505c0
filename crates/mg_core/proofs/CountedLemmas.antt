-- Lines that count ticks.
use Rattle.std.proofs.Common.{◌≡◌, ℕ, zero, suc, ◌+◌, ◌*◌, ◌<◌, ◌≤◌, Bool, true, false, ◌||◌, List, [], ◌∷◌, ◌++◌, length, codes, replicate, drop, take, Some, None, refl, sym, ap, ◌∙◌, append_assoc, length-drop, arith}
use Rattle.std.specs.Prelude.{◌&&◌, not, if◌then◌else◌}
use Rattle.std.specs.List.{list_any}
use Rattle.std.specs.Str.{bytes_eq}
use Rattle.std.proofs.lemmas.List.{append-nil, replicate-append-replicate}
use Rattle.std.proofs.lemmas.List.Folds.{list_any-append}
use Rattle.std.proofs.lemmas.Slice.Eq.{bytes_eq-Decides}
use Rattle.mg_words.specs.Numbers.{decimal_of}
use Rattle.mg_words.proofs.DigitSteps.{long_none}
use Rattle.mg_core.specs.Counted.{expanded, is_mark, lines_in, ticks_in}
use Rattle.mg_core.specs.aids.Resuming.{counted_in}

or_none : (c : Bool) → (c || false) ≡ c
or_none true = refl
or_none false = refl

or_assoc : (a b c : Bool) → ((a || b) || c) ≡ (a || (b || c))
or_assoc true b c = refl
or_assoc false b c = refl

pub expanded_both : (c : Bool) (xs ys : List (List ℕ)) →
    expanded c (xs ++ ys) ≡ expanded c xs ++ expanded (c || list_any is_mark xs) ys
unfolding expanded
expanded_both c [] ys = ap (λ (b : Bool). expanded b ys) (sym (or_none c))
expanded_both c (x ∷ xs) ys =
    let next = c || is_mark x in
    ap (λ (l : List (List ℕ)). lines_in c x ++ l) (expanded_both next xs ys)
    ∙ ap (λ (b : Bool). lines_in c x ++ (expanded next xs ++ expanded b ys)) (or_assoc c (is_mark x) (list_any is_mark xs))
    ∙ sym (append_assoc (lines_in c x) (expanded next xs) (expanded (c || (is_mark x || list_any is_mark xs)) ys))

pub expanded_one : (c : Bool) (line : List ℕ) → expanded c (line ∷ []) ≡ lines_in c line
unfolding expanded
expanded_one c line = append-nil (lines_in c line)

pub expanded_more : (before : List (List ℕ)) (line : List ℕ) →
    expanded false (before ++ line ∷ []) ≡ expanded false before ++ lines_in (list_any is_mark before) line
expanded_more before line =
    expanded_both false before (line ∷ [])
    ∙ ap (λ (l : List (List ℕ)). expanded false before ++ l) (expanded_one (list_any is_mark before) line)

pub plain_line : (c : Bool) (line : List ℕ) → counted_in c line ≡ None → lines_in c line ≡ line ∷ []
plain_line true line none = rw none refl
plain_line false line none = refl

pub counted_line : (c : Bool) (line : List ℕ) (n : ℕ) → counted_in c line ≡ Some n →
    lines_in c line ≡ replicate n (codes "tick")
counted_line true line n is = rw is refl
counted_line false line n is = absurd (cc is)

pub marks_more : (before : List (List ℕ)) (line : List ℕ) →
    list_any is_mark (before ++ line ∷ []) ≡ (list_any is_mark before || is_mark line)
marks_more before line =
    list_any-append is_mark before (line ∷ []) ∙ ap (λ (b : Bool). list_any is_mark before || b) (or_none (is_mark line))

pub marks_same : (before lines : List (List ℕ)) → list_any is_mark lines ≡ false →
    list_any is_mark (before ++ lines) ≡ list_any is_mark before
marks_same before lines none =
    list_any-append is_mark before lines ∙ ap (λ (b : Bool). list_any is_mark before || b) none
    ∙ or_none (list_any is_mark before)

-- ## `tick` lines

pub ticks_stay : (k : ℕ) (c : Bool) → expanded c (replicate k (codes "tick")) ≡ replicate k (codes "tick")
unfolding expanded
ticks_stay zero c = refl
ticks_stay (suc k) true = ap (λ (l : List (List ℕ)). codes "tick" ∷ l) (ticks_stay k true)
ticks_stay (suc k) false = ap (λ (l : List (List ℕ)). codes "tick" ∷ l) (ticks_stay k false)

pub ticks_unmarked : (k : ℕ) → list_any is_mark (replicate k (codes "tick")) ≡ false
ticks_unmarked zero = refl
ticks_unmarked (suc k) = ticks_unmarked k

-- ## Lines with a count

pub tens_expanded : (k : ℕ) → expanded true (replicate k (codes "ticks 10")) ≡ replicate (10 * k) (codes "tick")
unfolding expanded
tens_expanded zero = refl
tens_expanded (suc k) =
    ap (λ (l : List (List ℕ)). replicate 10 (codes "tick") ++ l) (tens_expanded k)
    ∙ replicate-append-replicate 10 (10 * k) (codes "tick")
    ∙ ap (λ (n : ℕ). replicate n (codes "tick")) (omega arith)

pub tens_unmarked : (k : ℕ) → list_any is_mark (replicate k (codes "ticks 10")) ≡ false
tens_unmarked zero = refl
tens_unmarked (suc k) = tens_unmarked k

mark_text : (line : List ℕ) (b : Bool) → is_mark line ≡ b → (n : ℕ) → ticks_in line ≡ Some n → b ≡ false
mark_text line false is n counted = refl
mark_text line true is n counted =
    let same : line ≡ codes "# counted ticks" = (bytes_eq-Decides line (codes "# counted ticks")).0 is in
    let none : ticks_in line ≡ None = rw same refl in
    absurd (cc (none, counted))

-- A line that counts ticks is not the line after which they are counted.
pub counts_no_mark : (c : Bool) (line : List ℕ) (n : ℕ) → counted_in c line ≡ Some n → is_mark line ≡ false
counts_no_mark true line n is = mark_text line (is_mark line) refl n is
counts_no_mark false line n is = absurd (cc is)

no_count : (digits : List ℕ) (b : Bool) → 20 < length digits →
    (if b then decimal_of 20 18446744073709551615 digits else None) ≡ None
no_count digits true long = long_none 20 18446744073709551615 digits long
no_count digits false long = refl

-- A line that is too long counts no ticks.
pub long_plain : (c : Bool) (line : List ℕ) → 140001 ≤ length line → counted_in c line ≡ None
long_plain true line long =
    no_count (drop 6 line) (bytes_eq (take 6 line) (codes "ticks ") && not (bytes_eq (take 1 (drop 6 line)) (codes "0")))
    (omega (arith, length-drop 6 line, long))
long_plain false line long = refl

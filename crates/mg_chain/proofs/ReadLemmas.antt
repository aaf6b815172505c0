-- Reading a text line by line.
use Rattle.std.proofs.Common.{◌≡◌, ℕ, zero, suc, ◌+◌, ◌<◌, ◌≤◌, Bool, true, false, eqb, List, [], ◌∷◌, ◌++◌, Option, None, Some, IfSome, cond, length, refl, sym, ap, subst, ◌∙◌, arith, append_assoc, append-nil}
use Rattle.std.proofs.BufReadLemmas.{take_through_nonempty}
use Rattle.std.specs.Io.KnownBytes.{IsAtEnd}
use Rattle.std.specs.Io.BufRead.{take_through, drop_through, DropsThrough}
use Rattle.sha2.specs.declared.Sha256.{Sha256}
use Rattle.sha2.specs.Hashers.{Holds256}
use Rattle.mg_chain.specs.declared.seals.Seals.{Seals}
use Rattle.mg_chain.specs.declared.linked.Linked.{Linked}
use Rattle.mg_chain.specs.Seals.{IsLinked, after_line, after_lines, is_whole, last_part, no_seals, seal_end, seals_of}
use Rattle.mg_chain.specs.aids.Reading.{Reading, Reads}
use Rattle.mg_chain.proofs.PartLemmas.{part_nil}

-- At the end of the text, no further line is counted.
at_end : (most : ℕ) (seals : Seals) (number : ℕ) (before : List ℕ) → after_lines most seals number before [] ≡ seals
unfolding after_lines
at_end zero seals number before = refl
at_end (suc most) seals number before = refl

-- The rest of a text after its first line is shorter than the text.
pub shorter : (b : ℕ) (bs : List ℕ) → length (drop_through 10 (b ∷ bs)) ≤ length bs
shorter b bs = at (eqb b 10) (rest bs)
  where
    rest : (bs : List ℕ) → length (drop_through 10 bs) ≤ length bs
    rest [] = omega arith
    rest (c ∷ cs) = after (eqb c 10) (rest cs)
      where
        after : (is : Bool) → length (drop_through 10 cs) ≤ length cs
            → length (cond is cs (drop_through 10 cs)) ≤ suc (length cs)
        after true h = omega arith
        after false h = omega arith

    at : (is : Bool) → length (drop_through 10 bs) ≤ length bs
        → length (cond is bs (drop_through 10 bs)) ≤ length bs
    at true h = omega arith
    at false h = h

-- ## Complete lines

pub whole_cons : (b : ℕ) (bs : List ℕ) → 0 < length bs → is_whole bs ≡ true → is_whole (b ∷ bs) ≡ true
whole_cons b [] some whole = absurd (omega arith)
whole_cons b (c ∷ cs) some whole = whole

pub whole_append : (a b : List ℕ) → is_whole a ≡ true → is_whole b ≡ true → is_whole (a ++ b) ≡ true
whole_append [] b whole more = more
whole_append (x ∷ []) [] whole more = whole
whole_append (x ∷ []) (c ∷ cs) whole more = more
whole_append (x ∷ y ∷ ys) b whole more = whole_append (y ∷ ys) b whole more

some_taken : (b : ℕ) (bs : List ℕ) → 0 < length (take_through 10 (b ∷ bs))
some_taken b bs = at (eqb b 10)
  where
    at : (is : Bool) → 0 < length (cond is (b ∷ []) (b ∷ take_through 10 bs))
    at true = omega arith
    at false = omega arith

-- A line is complete if text follows it.
pub line_whole : (text : List ℕ) → 0 < length (drop_through 10 text) → is_whole (take_through 10 text) ≡ true
line_whole [] more = absurd (omega arith)
line_whole (b ∷ bs) more = at (eqb b 10) refl more (line_whole bs) (taken bs)
  where
    at : (is : Bool) → eqb b 10 ≡ is → 0 < length (cond is bs (drop_through 10 bs))
        → (0 < length (drop_through 10 bs) → is_whole (take_through 10 bs) ≡ true)
        → (0 < length (drop_through 10 bs) → 0 < length (take_through 10 bs))
        → is_whole (cond is (b ∷ []) (b ∷ take_through 10 bs)) ≡ true
    at true feed more rest some = feed
    at false feed more rest some = whole_cons b (take_through 10 bs) (some more) (rest more)

    taken : (bs : List ℕ) → 0 < length (drop_through 10 bs) → 0 < length (take_through 10 bs)
    taken [] more = absurd (omega arith)
    taken (c ∷ cs) more = some_taken c cs

-- Before the first line, the state of the reader fits the whole text.
pub starts : (text : Option (List ℕ)) (hasher : Sha256) (seals : Seals) → Holds256 hasher [] → seals ≡ no_seals
    → Reads text text hasher seals 1
starts None hasher seals holds none = tt
starts (Some all) hasher seals holds none = record {
  before = [];
  left = all;
  most = length all;
  remaining = refl;
  parts = refl;
  whole = λ more. refl;
  holds = subst (λ (l : List ℕ). Holds256 hasher l) (sym part_nil) holds;
  enough = omega arith;
  is = ap (λ s. after_lines (length all) s 1 [] all) none;
}

-- At the end of the text, the seals found are the seals of the whole text.
pub ends : (text rest : Option (List ℕ)) (hasher : Sha256) (seals found : Seals) (number : ℕ)
    → Reads text rest hasher seals number → IsAtEnd rest → found ≡ seals → IfSome text (λ all. found ≡ seals_of all)
ends None rest hasher seals found number reads end same = tt
ends (Some all) rest hasher seals found number reads end same =
    let none : reads.left ≡ [] = subst (λ r. IsAtEnd r) reads.remaining end in
    same ∙ (sym (at_end reads.most seals number reads.before)
    ∙ (ap (λ left. after_lines reads.most seals number reads.before left) (sym none) ∙ reads.is))

-- At the end of the text, the hasher holds its last part.
ends_held : (all before left : List ℕ) (hasher : Sha256) → before ++ left ≡ all → left ≡ []
    → Holds256 hasher (last_part before) → Holds256 hasher (last_part all)
ends_held all before left hasher parts none holds =
    subst (λ (l : List ℕ). Holds256 hasher (last_part l))
    (sym (append-nil before) ∙ (ap (λ (l : List ℕ). before ++ l) (sym none) ∙ parts)) holds

-- At the end of the text, what was found satisfies `IsLinked` for the whole text.
pub linked : (text rest : Option (List ℕ)) (hasher : Sha256) (seals : Seals) (found : Linked) (number : ℕ)
    → Reads text rest hasher seals number → IsAtEnd rest → found.seals ≡ seals
    → ((part : List ℕ) → Holds256 hasher part → found.end ≡ seal_end part)
    → IfSome text (λ all. IsLinked all found)
linked None rest hasher seals found number reads end same ends_so = tt
linked (Some all) rest hasher seals found number reads end same ends_so =
    let none : reads.left ≡ [] = subst (λ r. IsAtEnd r) reads.remaining end in (
      ends (Some all) rest hasher seals found.seals number reads end same,
      ends_so (last_part all) (ends_held all reads.before reads.left hasher reads.parts none reads.holds),
    )

through : (bs : List ℕ) → take_through 10 bs ++ drop_through 10 bs ≡ bs
through [] = refl
through (b ∷ bs) = at (eqb b 10) (through bs)
  where
    at : (is : Bool) → take_through 10 bs ++ drop_through 10 bs ≡ bs
        → cond is (b ∷ []) (b ∷ take_through 10 bs) ++ cond is bs (drop_through 10 bs) ≡ b ∷ bs
    at true h = refl
    at false h = ap (λ (l : List ℕ). b ∷ l) h

step : (all before left line : List ℕ) (most number : ℕ) (new : Option (List ℕ)) (after : Sha256) (seals found : Seals)
    → length left ≤ most → before ++ left ≡ all → after_lines most seals number before left ≡ seals_of all
    → (0 < length left → is_whole before ≡ true) → line ≡ take_through 10 left → 0 < length line
    → new ≡ Some (drop_through 10 left) → Holds256 after (last_part (before ++ line))
    → found ≡ after_line seals number before line → Reading all new after found (number + 1)
unfolding after_lines
step all before [] line most number new after seals found enough parts is whole taken some dropped holds counted =
    absurd (omega (arith, ap length taken))
step all before (b ∷ bs) line zero number new after seals found enough parts is whole taken some dropped holds counted =
    absurd (omega arith)
step all before (b ∷ bs) line (suc most) number new after seals found enough parts is whole taken some dropped holds counted =
    record {
      before = before ++ line;
      left = drop_through 10 (b ∷ bs);
      most = most;
      remaining = dropped;
      parts = append_assoc before line (drop_through 10 (b ∷ bs))
          ∙ (ap (λ (l : List ℕ). before ++ (l ++ drop_through 10 (b ∷ bs))) taken
          ∙ (ap (λ (l : List ℕ). before ++ l) (through (b ∷ bs)) ∙ parts));
      whole = λ more. whole_append before line (whole (omega arith))
          (ap is_whole taken ∙ line_whole (b ∷ bs) more);
      holds = holds;
      enough = omega (arith, shorter b bs);
      is = ap (λ f. after_lines most f (number + 1) (before ++ line) (drop_through 10 (b ∷ bs))) counted
          ∙ (ap (λ l. after_lines most (after_line seals number before l) (number + 1) (before ++ l)
          (drop_through 10 (b ∷ bs))) taken ∙ is);
    }

-- Reading one more line keeps the invariant of the reader.
pub goes_on : (text rest new : Option (List ℕ)) (hasher after : Sha256) (seals found : Seals) (number : ℕ)
    (old items line : List ℕ)
    → Reads text rest hasher seals number → IfSome rest (λ xs. items ≡ old ++ take_through 10 xs) → old ≡ []
    → line ≡ items → 0 < length line → DropsThrough rest new 10
    → ((before : List ℕ) → is_whole before ≡ true → Holds256 hasher (last_part before)
    → Holds256 after (last_part (before ++ line)) × (found ≡ after_line seals number before line))
    → Reads text new after found (number + 1)
goes_on None rest new hasher after seals found number old items line reads bytes empty same some drops takes = tt
goes_on (Some all) rest new hasher after seals found number old items line reads bytes empty same some drops takes =
    let bytes : items ≡ old ++ take_through 10 reads.left =
    subst (λ r. IfSome r (λ xs. items ≡ old ++ take_through 10 xs)) reads.remaining bytes in
    let taken : line ≡ take_through 10 reads.left =
    same ∙ (bytes ∙ ap (λ l. l ++ take_through 10 reads.left) empty) in
    let dropped : new ≡ Some (drop_through 10 reads.left) =
    subst (λ r. DropsThrough r new 10) reads.remaining drops in
    let took = takes reads.before
    (reads.whole (take_through_nonempty 10 reads.left (omega (arith, some, ap length taken)))) reads.holds in
    step all reads.before reads.left line reads.most number new after seals found reads.enough reads.parts reads.is reads.whole taken
    some dropped took.0 took.1

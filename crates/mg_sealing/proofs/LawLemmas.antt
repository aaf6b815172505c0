-- If the text before a seal is changed, some seal becomes invalid, unless there is a collision of SHA-256.
use Rattle.std.proofs.Common.{◌≡◌, ◌⊎◌, inl, inr, ⊎_elim, ◌<◌, take, ℕ, zero, suc, ◌+◌, ◌≤◌, Bool, true, false, cond, List, [], ◌∷◌, ◌++◌, Option, None, Some, length, drop, refl, sym, ap, subst, ◌∙◌, arith, append_assoc, append-nil, length-append, codes}
use Rattle.std.proofs.lemmas.List.{take-append-drop}
use Rattle.std.proofs.lemmas.Slice.Eq.{bytes_eq-Decides}
use Rattle.std.specs.Prelude.{bytes_eq}
use Rattle.std.specs.Io.BufRead.{take_through, drop_through}
use Rattle.mg_chain.specs.declared.seals.Seals.{Seals}
use Rattle.mg_chain.specs.Seals.{after_line, after_lines, is_seal, is_whole, judged, last_part, no_seals, seal_end, seal_of}
use Rattle.mg_chain.proofs.PartLemmas.{begins}
use Rattle.mg_chain.proofs.ReadLemmas.{shorter}
use Rattle.mg_sealing.proofs.LineLemmas.{IsLine, cut, first_line, is_line, joined, parts, same_hash, whole_part}
use Rattle.mg_sealing.specs.Laws.{ChangesShow, HasNoWrong, HaveCollision}

-- ## An invalid seal stays invalid

judged_none : (is_right : Bool) (number : ℕ) (seals : Seals) (wrong : Option ℕ) → seals.wrong ≡ wrong
    → (judged is_right number seals wrong).wrong ≡ None → (seals.wrong ≡ None) × (is_right ≡ true)
judged_none is_right number seals (Some first) same none = absurd (cc (same, none))
judged_none true number seals None same none = (same, refl)
judged_none false number seals None same none = absurd cc

none_if : (is : Bool) (is_right : Bool) (number : ℕ) (seals : Seals)
    → (cond is (judged is_right number seals seals.wrong) seals).wrong ≡ None → seals.wrong ≡ None
none_if true is_right number seals none = (judged_none is_right number seals seals.wrong refl none).0
none_if false is_right number seals none = none

line_none : (seals : Seals) (number : ℕ) (before line : List ℕ) → (after_line seals number before line).wrong ≡ None
    → seals.wrong ≡ None
line_none seals number before line none =
    none_if (is_seal line) (bytes_eq (drop 9 line) (seal_end (last_part before))) number seals none

lines_none : (most : ℕ) (seals : Seals) (number : ℕ) (before rest : List ℕ)
    → (after_lines most seals number before rest).wrong ≡ None → seals.wrong ≡ None
unfolding after_lines
lines_none zero seals number before rest none = none
lines_none (suc most) seals number before [] none = none
lines_none (suc most) seals number before (b ∷ bs) none =
    line_none seals number before (take_through 10 (b ∷ bs))
    (lines_none most (after_line seals number before (take_through 10 (b ∷ bs))) (number + 1)
    (before ++ take_through 10 (b ∷ bs)) (drop_through 10 (b ∷ bs)) none)

-- ## Lines that are read

-- `tail` is the rest of a text after `before`. From some state of the check on, no seal in it is invalid.
record Later (before tail : List ℕ) : Type 0 where
  most : ℕ
  seals : Seals
  number : ℕ
  enough : length tail ≤ most
  none : (after_lines most seals number before tail).wrong ≡ None

later : (most : ℕ) (seals : Seals) (number : ℕ) (before found tail : List ℕ) → is_whole found ≡ true
    → length (found ++ tail) ≤ most → (after_lines most seals number before (found ++ tail)).wrong ≡ None
    → Later (before ++ found) tail
unfolding after_lines
later most seals number before [] tail whole enough none = record {
  most = most;
  seals = seals;
  number = number;
  enough = enough;
  none = subst (λ (l : List ℕ). (after_lines most seals number l tail).wrong ≡ None) (sym (append-nil before)) none;
}
later zero seals number before (b ∷ bs) tail whole enough none = absurd (omega arith)
later (suc most) seals number before (b ∷ bs) tail whole enough none =
    let p = parts b bs tail whole in
    let line = take_through 10 (b ∷ bs) in
    let rest = drop_through 10 (b ∷ bs) in
    let next : Later ((before ++ line) ++ rest) tail =
    later most (after_line seals number before line) (number + 1) (before ++ line) rest tail p.2
    (omega (arith, shorter b bs, length-append rest tail, length-append bs tail))
    (subst (λ (l : List ℕ). (after_lines most (after_line seals number before line) (number + 1) (before ++ line) l).wrong ≡ None)
    p.1 (subst (λ (l : List ℕ). (after_lines most (after_line seals number before l) (number + 1) (before ++ l)
    (drop_through 10 (b ∷ (bs ++ tail)))).wrong ≡ None) p.0 none)) in
    subst (λ (l : List ℕ). Later l tail) (append_assoc before line rest ∙ ap (λ (l : List ℕ). before ++ l) p.3) next

-- ## A valid seal

right_if : (is is_right : Bool) (number : ℕ) (seals : Seals) → is ≡ true
    → (cond is (judged is_right number seals seals.wrong) seals).wrong ≡ None → is_right ≡ true
right_if true is_right number seals sealed none = (judged_none is_right number seals seals.wrong refl none).1
right_if false is_right number seals sealed none = absurd cc

taken : (line rest : List ℕ) → IsLine line → take_through 10 (line ++ rest) ≡ line
taken [] rest l = absurd (cc l.starts)
taken (b ∷ bs) rest l = (parts b bs rest l.whole).0 ∙ l.one

same_end : (line found rest : List ℕ) → IsLine line → Later found (line ++ rest) → drop 9 line ≡ seal_end (last_part found)
unfolding after_lines
same_end [] found rest is l = absurd (cc is.starts)
same_end (b ∷ bs) found rest is l = at l.most l.enough l.none
  where
    at : (most : ℕ) → length ((b ∷ bs) ++ rest) ≤ most
        → (after_lines most l.seals l.number found ((b ∷ bs) ++ rest)).wrong ≡ None
        → drop 9 (b ∷ bs) ≡ seal_end (last_part found)
    at zero enough none = absurd (omega arith)
    at (suc most) enough none =
        let line = take_through 10 ((b ∷ bs) ++ rest) in
        let now : (after_line l.seals l.number found line).wrong ≡ None =
        lines_none most (after_line l.seals l.number found line) (l.number + 1) (found ++ line)
        (drop_through 10 ((b ∷ bs) ++ rest)) none in
        let judged_so : (after_line l.seals l.number found (b ∷ bs)).wrong ≡ None =
        subst (λ (t : List ℕ). (after_line l.seals l.number found t).wrong ≡ None) (taken (b ∷ bs) rest is) now in
        (bytes_eq-Decides (drop 9 (b ∷ bs)) (seal_end (last_part found))).0
        (right_if (is_seal (b ∷ bs)) (bytes_eq (drop 9 (b ∷ bs)) (seal_end (last_part found))) l.number l.seals is.is judged_so)

-- If no seal of a text is invalid, a complete line with the form of a seal is the seal of the part before it.
right_seal : (line found rest : List ℕ) → IsLine line → is_whole found ≡ true → HasNoWrong (found ++ (line ++ rest))
    → line ≡ seal_of (last_part found)
right_seal line found rest is whole none =
    let l = later (length (found ++ (line ++ rest))) no_seals 1 [] found (line ++ rest) whole (omega arith) none in
    let mark : codes "# sha256 " ≡ take 9 line = (bytes_eq-Decides (codes "# sha256 ") (take 9 line)).0 is.starts in
    sym (take-append-drop 9 line) ∙ (ap (λ (l : List ℕ). l ++ drop 9 line) (sym mark)
    ∙ ap (λ (end : List ℕ). codes "# sha256 " ++ end) (same_end line found rest is l))

-- ## From seal to seal

abbrev Same : (all other one two : List ℕ) → Type 0
Same all other one two = (one ≡ two) ⊎ HaveCollision all other

abbrev Before : (all other : List ℕ) (most : ℕ) → Type 0
Before all other most = (part one two rest more : List ℕ) → length one < most → is_whole one ≡ true → is_whole two ≡ true
    → all ≡ one ++ (seal_of part ++ rest) → other ≡ two ++ (seal_of part ++ more) → Same all other one two

no_wrong : (all text : List ℕ) → all ≡ text → HasNoWrong all → HasNoWrong text
no_wrong all text same none = subst (λ (t : List ℕ). HasNoWrong t) same none

-- The induction step for two texts with the same last part: if a seal begins this part, the texts before that seal are
-- shorter.
from_cut : (all other one two rest more : List ℕ) (most : ℕ) → length one < suc most → is_whole one ≡ true
    → is_whole two ≡ true → HasNoWrong all → HasNoWrong other → all ≡ one ++ rest → other ≡ two ++ more
    → last_part one ≡ last_part two → Before all other most → (is : Bool) → begins (last_part one) ≡ is
    → Same all other one two
from_cut all other one two rest more most within whole also none nor e1 e2 same shorter_ones false starts =
    let c1 = cut one whole in
    let c2 = cut two also in
    let f1 : c1.front ≡ [] = ⊎_elim (λ empty. empty) (λ begun. absurd (cc (begun, starts))) c1.starts in
    let f2 : c2.front ≡ [] = ⊎_elim (λ empty. empty)
    (λ begun. absurd (cc (begun, sym (ap begins same) ∙ starts))) c2.starts in
    inl (c1.parts ∙ (ap (λ (l : List ℕ). l ++ last_part one) f1 ∙ (same ∙ (ap (λ (l : List ℕ). l ++ last_part two) (sym f2)
    ∙ sym c2.parts))))
from_cut all other one two rest more most within whole also none nor e1 e2 same shorter_ones true starts =
    let c1 = cut one whole in
    let c2 = cut two also in
    let p = last_part one in
    let line = take_through 10 p in
    let left = drop_through 10 p in
    let is = first_line p starts (whole_part one whole) in
    let halves : line ++ left ≡ p = joined p in
    let at1 : all ≡ c1.front ++ (line ++ (left ++ rest)) =
    e1 ∙ (ap (λ (l : List ℕ). l ++ rest) (c1.parts ∙ ap (λ (l : List ℕ). c1.front ++ l) (sym halves))
    ∙ (append_assoc c1.front (line ++ left) rest ∙ ap (λ (l : List ℕ). c1.front ++ l) (append_assoc line left rest))) in
    let at2 : other ≡ c2.front ++ (line ++ (left ++ more)) =
    e2 ∙ (ap (λ (l : List ℕ). l ++ more) (c2.parts ∙ ap (λ (l : List ℕ). c2.front ++ l) (sym same ∙ sym halves))
    ∙ (append_assoc c2.front (line ++ left) more ∙ ap (λ (l : List ℕ). c2.front ++ l) (append_assoc line left more))) in
    let sealed : line ≡ seal_of (last_part c1.front) =
    right_seal line c1.front (left ++ rest) is c1.whole (no_wrong all (c1.front ++ (line ++ (left ++ rest))) at1 none) in
    let before : Same all other c1.front c2.front =
    shorter_ones (last_part c1.front) c1.front c2.front (left ++ rest) (left ++ more)
    (omega (arith, within, ap length c1.parts, length-append c1.front p, some p starts)) c1.whole c2.whole
    (at1 ∙ ap (λ (l : List ℕ). c1.front ++ (l ++ (left ++ rest))) sealed)
    (at2 ∙ ap (λ (l : List ℕ). c2.front ++ (l ++ (left ++ more))) sealed) in
    ⊎_elim (λ fronts. inl (c1.parts ∙ (ap (λ (l : List ℕ). l ++ p) fronts ∙ (ap (λ (l : List ℕ). c2.front ++ l) same
    ∙ sym c2.parts)))) (λ found. inr found) before
  where
    some : (p : List ℕ) → begins p ≡ true → 0 < length p
    some [] starts = absurd cc
    some (b ∷ bs) starts = omega arith

-- The induction step for two texts followed by the same seal: their last parts are equal, or differ and have the same
-- hash.
from_seal : (all other one two rest more part : List ℕ) (most : ℕ) → length one < suc most → is_whole one ≡ true
    → is_whole two ≡ true → HasNoWrong all → HasNoWrong other → all ≡ one ++ (seal_of part ++ rest)
    → other ≡ two ++ (seal_of part ++ more) → Before all other most → (is : Bool)
    → bytes_eq (last_part one) (last_part two) ≡ is → Same all other one two
from_seal all other one two rest more part most within whole also none nor e1 e2 shorter_ones true same =
    from_cut all other one two (seal_of part ++ rest) (seal_of part ++ more) most within whole also none nor e1 e2
    ((bytes_eq-Decides (last_part one) (last_part two)).0 same) shorter_ones (begins (last_part one)) refl
from_seal all other one two rest more part most within whole also none nor e1 e2 shorter_ones false differ =
    let s1 : seal_of part ≡ seal_of (last_part one) =
    right_seal (seal_of part) one rest (is_line part) whole (no_wrong all (one ++ (seal_of part ++ rest)) e1 none) in
    let s2 : seal_of part ≡ seal_of (last_part two) =
    right_seal (seal_of part) two more (is_line part) also (no_wrong other (two ++ (seal_of part ++ more)) e2 nor) in
    inr (record {
      first = last_part one;
      second = last_part two;
      sealed = (
        (one, rest, e1 ∙ ap (λ (l : List ℕ). one ++ (l ++ rest)) s1, refl),
        (two, more, e2 ∙ ap (λ (l : List ℕ). two ++ (l ++ more)) s2, refl),
      );
      differ = λ same. absurd (cc (differ, (bytes_eq-Decides (last_part one) (last_part two)).1 same));
      same = same_hash (last_part one) (last_part two) (sym s1 ∙ s2);
    })

from : (all other : List ℕ) → HasNoWrong all → HasNoWrong other → (most : ℕ) → Before all other most
from all other none nor zero part one two rest more within whole also e1 e2 = absurd (omega arith)
from all other none nor (suc most) part one two rest more within whole also e1 e2 =
    from_seal all other one two rest more part most within whole also none nor e1 e2 (from all other none nor most)
    (bytes_eq (last_part one) (last_part two)) refl

pub changes_show : ChangesShow
changes_show part one two rest more whole also none nor =
    from (one ++ (seal_of part ++ rest)) (two ++ (seal_of part ++ more)) none nor (suc (length one)) part one two rest more
    (omega arith) whole also refl refl

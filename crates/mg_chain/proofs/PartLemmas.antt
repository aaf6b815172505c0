-- The start of the last part of a text.
use Rattle.std.proofs.Common.{◌≡◌, ℕ, zero, suc, ◌+◌, ◌-◌, ◌<◌, ◌≤◌, Bool, true, false, cond, eqb, List, [], ◌∷◌, ◌++◌, Option, None, Some, MatchOption, length, take, drop, get_or, refl, sym, ap, subst, ◌∙◌, arith, codes, append-nil, append_assoc}
use Rattle.std.specs.Prelude.{◌&&◌, ◌||◌, nat_eq, slice_index}
use Rattle.std.specs.List.{starts_with}
use Rattle.std.proofs.lemmas.List.{get_or_default, get_or-drop, get_or-take, length-drop, length-take, same_lists}
use Rattle.std.proofs.lemmas.Bool.Decides.{nat_tests}
use Rattle.std.proofs.lemmas.Slice.Eq.{bytes_eq-Decides}
use Rattle.memchr.specs.Find.{FindsLastNeedle, Nowhere, OccursAt}
use Rattle.mg_chain.specs.Seals.{has_mark, is_whole, last_part}
use Rattle.mg_chain.specs.aids.Parts.{IsStart, part_after}
use Rattle.mg_chain.proofs.SealLemmas.{has_feed}

-- Whether text begins like a seal (`begins`), or with a line feed and then like a seal (`marks`).
abbrev pub begins : List ℕ → Bool
begins text = starts_with nat_eq text (codes "# sha256 ")

abbrev pub marks : List ℕ → Bool
marks text = starts_with nat_eq text (codes "\n# sha256 ")

-- ## Marks

or_right : (a b : Bool) → b ≡ true → (a || b) ≡ true
or_right true b is = refl
or_right false b is = is

or_none : (a b : Bool) → (a || b) ≡ false → b ≡ false
or_none true b none = absurd cc
or_none false b none = none

pub mark_cons : (b : ℕ) (bs : List ℕ) → has_mark bs ≡ true → has_mark (b ∷ bs) ≡ true
unfolding has_mark
mark_cons b bs some = or_right (marks (b ∷ bs)) (has_mark bs) some

none_cons : (b : ℕ) (bs : List ℕ) → has_mark (b ∷ bs) ≡ false → has_mark bs ≡ false
unfolding has_mark
none_cons b bs none = or_none (marks (b ∷ bs)) (has_mark bs) none

pub mark_after : (text more : List ℕ) → has_mark more ≡ true → has_mark (text ++ more) ≡ true
mark_after [] more some = some
mark_after (b ∷ bs) more some = mark_cons b (bs ++ more) (mark_after bs more some)

pub mark_drop : (n : ℕ) (text : List ℕ) → has_mark (drop n text) ≡ true → has_mark text ≡ true
mark_drop zero text some = some
mark_drop (suc n) [] some = some
mark_drop (suc n) (b ∷ bs) some = mark_cons b bs (mark_drop n bs some)

pub none_drop : (n : ℕ) (text : List ℕ) → has_mark text ≡ false → has_mark (drop n text) ≡ false
none_drop zero text none = none
none_drop (suc n) [] none = none
none_drop (suc n) (b ∷ bs) none = none_drop n bs (none_cons b bs none)

-- ## The last part

pub part_same : (text : List ℕ) → has_mark text ≡ false → last_part text ≡ text
unfolding last_part
part_same [] none = refl
part_same (b ∷ bs) none = rw none refl

pub part_cons : (b : ℕ) (bs : List ℕ) → has_mark (b ∷ bs) ≡ true → last_part (b ∷ bs) ≡ last_part bs
unfolding last_part
part_cons b bs some = rw some refl

no_mark : has_mark [] ≡ false
unfolding has_mark
no_mark = refl

pub part_nil : last_part [] ≡ []
unfolding last_part
part_nil = refl

part_at : (n : ℕ) (text : List ℕ) → has_mark (drop n text) ≡ true → has_mark (drop (suc n) text) ≡ false
    → last_part text ≡ drop (suc n) text
part_at zero [] some none = absurd (cc (some, no_mark))
part_at (suc n) [] some none = absurd (cc (some, no_mark))
part_at zero (b ∷ bs) some none = part_cons b bs some ∙ part_same bs none
part_at (suc n) (b ∷ bs) some none = part_cons b bs (mark_cons b bs (mark_drop n bs some)) ∙ part_at n bs some none

pub part_of_start : (text : List ℕ) (start : ℕ) → IsStart text start → last_part text ≡ drop start text
part_of_start text zero is = absurd (cc (is.before, is.last))
part_of_start text (suc n) is =
    part_at n text (ap (λ (k : ℕ). has_mark (drop k text)) (omega arith) ∙ is.before) is.last

pub start_marks : (text : List ℕ) (start : ℕ) → IsStart text start → has_mark text ≡ true
start_marks text start is = mark_drop (start - 1) text is.before

-- ## Complete lines followed by more text

pub part_later : (text more : List ℕ) → has_mark more ≡ true → last_part (text ++ more) ≡ last_part more
part_later [] more some = refl
part_later (b ∷ bs) more some =
    part_cons b (bs ++ more) (mark_cons b (bs ++ more) (mark_after bs more some)) ∙ part_later bs more some

pub whole_tail : (b : ℕ) (bs : List ℕ) → is_whole (b ∷ bs) ≡ true → is_whole bs ≡ true
whole_tail b [] whole = refl
whole_tail b (c ∷ cs) whole = whole

other_byte : (m b : ℕ) (rest : Bool) → cond (eqb m 10) true rest ≡ false → eqb b 10 ≡ true → nat_eq m b ≡ false
other_byte m b rest other feed = grind (arith, nat_tests, other, feed)

no_feed_tail : (m : ℕ) (ms : List ℕ) → has_feed (m ∷ ms) ≡ false → has_feed ms ≡ false
no_feed_tail m ms none = at (eqb m 10) none
  where
    at : (is : Bool) → cond is true (has_feed ms) ≡ false → has_feed ms ≡ false
    at true none = absurd cc
    at false none = none

front_same : (front : List ℕ) (b : ℕ) (bs more : List ℕ) → has_feed front ≡ false → is_whole (b ∷ bs) ≡ true
    → starts_with nat_eq ((b ∷ bs) ++ more) front ≡ starts_with nat_eq (b ∷ bs) front
front_same [] b bs more plain whole = refl
front_same (m ∷ ms) b [] more plain whole = rw (other_byte m b (has_feed ms) plain whole) refl
front_same (m ∷ ms) b (c ∷ cs) more plain whole =
    ap (λ is. nat_eq m b && is) (front_same ms c cs more (no_feed_tail m ms plain) whole)

and_none : (a b : Bool) → b ≡ false → (a && b) ≡ false
and_none true b none = none
and_none false b none = refl

mark_same : (text more : List ℕ) → is_whole text ≡ true → has_mark more ≡ false → begins more ≡ false
    → has_mark (text ++ more) ≡ has_mark text
unfolding has_mark
mark_same [] more whole none other = none
mark_same (b ∷ []) more whole none other =
    ap (λ is. is || has_mark more) (and_none (nat_eq 10 b) (begins more) other) ∙ none
    ∙ sym (ap (λ is. is || false) (and_none (nat_eq 10 b) (begins []) refl))
mark_same (b ∷ c ∷ cs) more whole none other =
    ap (λ is. (nat_eq 10 b && is) || has_mark ((c ∷ cs) ++ more)) (front_same (codes "# sha256 ") c cs more refl whole)
    ∙ ap (λ is. (nat_eq 10 b && begins (c ∷ cs)) || is) (mark_same (c ∷ cs) more whole none other)

pub part_goes_on : (text more : List ℕ) → is_whole text ≡ true → has_mark more ≡ false → begins more ≡ false
    → last_part (text ++ more) ≡ last_part text ++ more
part_goes_on [] more whole none other = part_same more none ∙ ap (λ l. l ++ more) (sym part_nil)
part_goes_on (b ∷ bs) more whole none other =
    at (has_mark (b ∷ bs)) refl (part_goes_on bs more (whole_tail b bs whole) none other)
  where
    at : (is : Bool) → has_mark (b ∷ bs) ≡ is → last_part (bs ++ more) ≡ last_part bs ++ more
        → last_part ((b ∷ bs) ++ more) ≡ last_part (b ∷ bs) ++ more
    at true some rest =
        part_cons b (bs ++ more) (mark_same (b ∷ bs) more whole none other ∙ some) ∙ rest
        ∙ ap (λ l. l ++ more) (sym (part_cons b bs some))
    at false other_so rest =
        part_same ((b ∷ bs) ++ more) (mark_same (b ∷ bs) more whole none other ∙ other_so)
        ∙ ap (λ l. l ++ more) (sym (part_same (b ∷ bs) other_so))

feed_first : (b : ℕ) → eqb b 10 ≡ true → nat_eq 10 b ≡ true
feed_first b feed = grind (arith, nat_tests, feed)

seam_mark : (b : ℕ) (bs more : List ℕ) → is_whole (b ∷ bs) ≡ true → begins more ≡ true → has_mark ((b ∷ bs) ++ more) ≡ true
unfolding has_mark
seam_mark b [] more whole starts = rw (feed_first b whole) (rw starts refl)
seam_mark b (c ∷ cs) more whole starts = mark_cons b ((c ∷ cs) ++ more) (seam_mark c cs more whole starts)

-- If complete lines are followed by text that begins like a seal and has no mark, that text is the last part.
pub part_begins : (text more : List ℕ) → is_whole text ≡ true → has_mark more ≡ false → begins more ≡ true
    → last_part (text ++ more) ≡ more
part_begins [] more whole none starts = part_same more none
part_begins (b ∷ bs) more whole none starts =
    part_cons b (bs ++ more) (seam_mark b bs more whole starts)
    ∙ part_begins bs more (whole_tail b bs whole) none starts

-- ## Searching

occurs_at_front : (text : List ℕ) → marks text ≡ true → OccursAt text (codes "\n# sha256 ") 0
occurs_at_front text is =
    let front : codes "\n# sha256 " ≡ take 10 text =
    (bytes_eq-Decides (codes "\n# sha256 ") (take 10 text)).0 is in record {
      fits = omega (arith, ap length front, length-take 10 text);
      reads = λ j within. ap (λ (i : ℕ). get_or text i 0) (omega arith) ∙ sym (ap (λ (l : List ℕ). get_or l j 0) front ∙ get_or-take 10 text j 0 within);
    }

occurs_tail : (b : ℕ) (bs : List ℕ) (k : ℕ) → OccursAt bs (codes "\n# sha256 ") k → OccursAt (b ∷ bs) (codes "\n# sha256 ") (suc k)
occurs_tail b bs k is = record { fits = omega (arith, is.fits); reads = λ j within. ap (λ (i : ℕ). get_or (b ∷ bs) i 0) (next j) ∙ is.reads j within }
  where
    next : (j : ℕ) → suc k + j ≡ suc (k + j)
    next j = omega arith

nowhere : (text : List ℕ) → ((k : ℕ) → OccursAt text (codes "\n# sha256 ") k → ⊥) → has_mark text ≡ false
unfolding has_mark
nowhere [] none = refl
nowhere (b ∷ bs) none = at (marks (b ∷ bs)) refl (nowhere bs (λ k occurs. none (suc k) (occurs_tail b bs k occurs)))
  where
    at : (is : Bool) → marks (b ∷ bs) ≡ is → has_mark bs ≡ false → (is || has_mark bs) ≡ false
    at true is rest = absurd (none 0 (occurs_at_front (b ∷ bs) is))
    at false is rest = rest

-- Text of fewer than 10 bytes has no mark.
pub too_short : (text : List ℕ) → length text < 10 → has_mark text ≡ false
too_short text short = nowhere text (λ k occurs. omega (arith, occurs.fits, short))

occurs_drop : (n : ℕ) (text : List ℕ) (k : ℕ) → OccursAt (drop n text) (codes "\n# sha256 ") k
    → OccursAt text (codes "\n# sha256 ") (n + k)
occurs_drop n text k is = record {
  fits = omega (arith, is.fits, length-drop n text);
  reads = λ j within. ap (λ (i : ℕ). get_or text i 0) (omega arith) ∙ (sym (get_or-drop n text (k + j) 0) ∙ is.reads j within);
}

pub mark_here : (text : List ℕ) → marks text ≡ true → has_mark text ≡ true
unfolding has_mark
mark_here [] is = is
mark_here (b ∷ bs) is = rw is refl

found_mark : (text : List ℕ) (i : ℕ) → OccursAt text (codes "\n# sha256 ") i → has_mark (drop i text) ≡ true
found_mark text i is =
    let size : length (take 10 (drop i text)) ≡ 10 = omega (arith, is.fits, length-take 10 (drop i text), length-drop i text) in
    mark_here (drop i text) ((bytes_eq-Decides (codes "\n# sha256 ") (take 10 (drop i text))).1
    (same_lists (codes "\n# sha256 ") (take 10 (drop i text)) (sym size) (λ k d within.
    get_or_default (codes "\n# sha256 ") k d 0 within ∙ sym (is.reads k within) ∙ sym (get_or-drop i text k 0)
    ∙ sym (get_or-take 10 (drop i text) k 0 within)
    ∙ get_or_default (take 10 (drop i text)) k 0 d (omega (arith, within, size)))))

pub found : (text : List ℕ) (r : Option ℕ) → FindsLastNeedle text (codes "\n# sha256 ") r
    → MatchOption r (has_mark text ≡ false) (λ i. IsStart text (i + 1))
found text None none = nowhere text (λ k occurs. none k (omega arith) (omega (arith, occurs.fits)) occurs)
found text (Some i) last = record {
  within = omega (arith, last.1.fits);
  before = subst (λ (n : ℕ). has_mark (drop n text) ≡ true) (omega arith) (found_mark text i last.1);
  last = nowhere (drop (i + 1) text) (λ k occurs.
      let here = occurs_drop (i + 1) text k occurs in last.0.after (i + 1 + k) (omega arith) (omega (arith, here.fits)) here);
}

-- The seats of a mask, in terms of its bits. Only these lemmas see the bits.
use Rattle.std.proofs.Common.{◌≡◌, ℕ, ◌-◌, ◌*◌, ◌/◌, ◌%◌, ◌^◌, ◌<◌, ◌≤◌, Bool, true, false, not, ◌||◌, ◌&&◌, ◌==◌, nat_eq, nat_lt, zero, suc, min, max, bit_and, bit_or, w64, refl, sym, ap, ◌∙◌, arith, inl, inr}
use Rattle.std.specs.Int.{bit_at, trailing_zeros, Width}
use Rattle.std.proofs.lemmas.Nat.Bits.{bit_at_or, bit_at_and, bit_at_not, bit_at-lt, bit_at_above, shr_and_one, bit_at-pow_same, bit_at-pow_other, bit_at-zero, bit_at-suc, bit_at_lowest, bit_at_ones, bit_at-trailing_zeros, same_from_bits}
use Rattle.std.proofs.lemmas.Nat.{one_shl}
use Rattle.std.proofs.lemmas.Bool.Decides.{nat_tests}
use Rattle.std.proofs.lemmas.Bool.{cases_lt, false≢true, ne_eqb, and_from, and_parts}
use Rattle.mg_topology.specs.Mask.{has_seat, is_disjoint, HaveCommonSeat}
use Rattle.mg_topology.specs.aids.Lowest.{IsLowest}
use Rattle.mg_topology.specs.declared.mask.TheConstants.{SEATS}

-- The width of a mask in bits, one for each seat.
abbrev pub mask_width : Width
mask_width = w64

-- ---- a bit as a test
or_test : (x y : ℕ) → x < 2 → y < 2 → (max x y == 1) ≡ ((x == 1) || (y == 1))
or_test x y p q = grind (arith, nat_tests)

and_test : (x y : ℕ) → x < 2 → y < 2 → (min x y == 1) ≡ ((x == 1) && (y == 1))
and_test x y p q = grind (arith, nat_tests)

not_test : (x : ℕ) → x < 2 → ((1 - x) == 1) ≡ not (x == 1)
not_test x p = grind (arith, nat_tests)

one_test : (k s : ℕ) → (bit_at (2 ^ k) s == 1) ≡ (s == k)
one_test k s = grind (arith, nat_tests, bit_at-pow_same, bit_at-pow_other)

-- ---- the seats in the result of a bit operation
pub has_seat-or : (a b s : ℕ) → has_seat (bit_or a b) s ≡ (has_seat a s || has_seat b s)
unfolding has_seat
has_seat-or a b s = ap (λ n. n == 1) (bit_at_or a b s) ∙ or_test _ _ (bit_at-lt a s) (bit_at-lt b s)

pub has_seat-and : (a b s : ℕ) → has_seat (bit_and a b) s ≡ (has_seat a s && has_seat b s)
unfolding has_seat
has_seat-and a b s = ap (λ n. n == 1) (bit_at_and a b s) ∙ and_test _ _ (bit_at-lt a s) (bit_at-lt b s)

-- A seat below the limit is in `!b` if and only if it is not in b.
pub has_seat-not : (b s : ℕ) → b < 2 ^ SEATS → s < SEATS → has_seat (2 ^ SEATS - 1 - b) s ≡ not (has_seat b s)
unfolding has_seat
has_seat-not b s p q = ap (λ n. n == 1) (bit_at_not mask_width b s p q) ∙ not_test _ (bit_at-lt b s)

-- The test `mask >> seat & 1 == 1` says whether the seat is in the mask.
pub has_seat-shr : (a s : ℕ) → nat_eq (bit_and (a / 2 ^ s) 1) 1 ≡ has_seat a s
unfolding has_seat
has_seat-shr a s = ap (λ n. n == 1) (shr_and_one a s)

-- The mask `1 << k` contains seat k and no other seat.
pub has_seat-shl : (k s : ℕ) → k < SEATS → has_seat (1 * 2 ^ k % 2 ^ SEATS) s ≡ (s == k)
unfolding has_seat
has_seat-shl k s p = ap (λ n. bit_at n s == 1) (one_shl k SEATS p) ∙ one_test k s

-- ---- which seats a mask can have
-- A mask contains no seat at or above the limit.
pub has_seat-above : (a s : ℕ) → a < 2 ^ SEATS → SEATS ≤ s → has_seat a s ≡ false
unfolding has_seat
has_seat-above a s p q = ap (λ n. n == 1) (bit_at_above a SEATS s p q)

-- For a mask, the test of `holds`, which includes the limit, agrees with `has_seat`.
pub has_seat-inside : (a s : ℕ) → a < 2 ^ SEATS → has_seat a s ≡ (nat_lt s SEATS && has_seat a s)
has_seat-inside a s p = grind (arith, nat_tests, has_seat-above a s p)

-- Each seat of a mask is below the limit.
pub below_limit : (a s : ℕ) → a < 2 ^ SEATS → has_seat a s ≡ true → s < SEATS
below_limit a s p h =
    elim (cases_lt s SEATS) [
      | inl below ↦ below
      | inr above ↦ absurd (false≢true (sym (has_seat-above a s p above) ∙ h))
    ]

-- By these lemmas, the empty mask contains no seat, and the full mask contains every seat below the limit.
pub has_seat-empty : (s : ℕ) → has_seat 0 s ≡ false
unfolding has_seat
has_seat-empty s = ap (λ n. n == 1) (bit_at-zero s)

pub has_seat-full : (s : ℕ) → s < SEATS → has_seat (2 ^ SEATS - 1) s ≡ true
unfolding has_seat
has_seat-full s p = ap (λ n. n == 1) (bit_at_ones SEATS s p)

-- ---- the seats of one set without those of another
outside : (x y z : Bool) → x ≡ false → (x && y) ≡ (x && z)
outside true y z e = cc
outside false y z e = refl

-- The mask `a & !b` contains the seats of a that are not in b.
pub has_seat-less : (a b s : ℕ) → a < 2 ^ SEATS → b < 2 ^ SEATS →
    has_seat (bit_and a (2 ^ SEATS - 1 - b)) s ≡ (has_seat a s && not (has_seat b s))
has_seat-less a b s p q =
    has_seat-and a (2 ^ SEATS - 1 - b) s ∙ elim (cases_lt s SEATS) [
      | inl below ↦ ap (λ x. has_seat a s && x) (has_seat-not b s q below)
      | inr above ↦ outside (has_seat a s) _ _ (has_seat-above a s p above)
    ]

-- ---- two sets with and without a common seat
-- A number other than 0 has a bit that is 1.
some_bit : (fuel n : ℕ) → n ≤ fuel → 0 < n → (s : ℕ) × (bit_at n s ≡ 1)
some_bit zero n p q = absurd (omega (arith))
some_bit (suc fuel) n p q =
    elim (cases_lt (n % 2) 1) [
      | inl even ↦ (let rest = some_bit fuel (n / 2) (omega arith) (omega arith) in
          (suc rest.0, bit_at-suc n rest.0 ∙ rest.1))
      | inr odd ↦ (0, bit_at_lowest n ∙ omega arith)
    ]

common_bit : (a b : ℕ) → is_disjoint a b ≡ false → 0 < bit_and a b
unfolding is_disjoint
common_bit a b p = grind (arith, nat_tests)

-- Sets that are not disjoint have a seat in common.
pub has_common_seat : (a b : ℕ) → is_disjoint a b ≡ false → HaveCommonSeat a b
unfolding has_seat
has_common_seat a b p =
    let found = some_bit (bit_and a b) (bit_and a b) (omega arith) (common_bit a b p) in
    let both = and_parts _ _ (sym (has_seat-and a b found.0) ∙ ap (λ n. n == 1) found.1) in
    record { seat = found.0; in_first = both.0; in_second = both.1 }

-- Sets with a common seat are not disjoint.
pub is_disjoint-common : (a b : ℕ) → HaveCommonSeat a b → is_disjoint a b ≡ false
unfolding is_disjoint
is_disjoint-common a b h =
    ne_eqb _ _ (λ e. false≢true (sym (has_seat-empty h.seat) ∙ sym (ap (λ n. has_seat n h.seat) e) ∙
    has_seat-and a b h.seat ∙ and_from _ _ h.in_first h.in_second))

-- ---- masks as numbers
-- A mask other than 0 has a lowest seat, which is the number of its trailing zeros.
pub lowest_of : (a : ℕ) → 0 < a → a < 2 ^ SEATS → IsLowest a (trailing_zeros mask_width a)
unfolding has_seat
lowest_of a p q =
    let z = bit_at-trailing_zeros mask_width a p q in
    record { below_limit = z.0; is_in = ap (λ n. n == 1) z.1; is_least = λ s l. ap (λ n. n == 1) (z.2 s l) }

-- A number that is at most a mask, and lacks one of the mask's seats, is smaller than the mask.
pub smaller_without : (a b s : ℕ) → b ≤ a → has_seat a s ≡ true → has_seat b s ≡ false → b < a
smaller_without a b s le p q = grind (arith, ap (λ n. has_seat n s))

same_bit : (x y : ℕ) → x < 2 → y < 2 → (x == 1) ≡ (y == 1) → x ≡ y
same_bit x y p q e = grind (arith, nat_tests)

-- Masks with the same seats are equal.
pub same_mask : (a b : ℕ) → ((s : ℕ) → has_seat a s ≡ has_seat b s) → a ≡ b
unfolding has_seat
same_mask a b h = same_from_bits a b (λ i. same_bit _ _ (bit_at-lt a i) (bit_at-lt b i) (h i))

-- Rules for goals about seats. A function names them as `#[tactic(auto, using(crate::proofs::MaskLemmas::seat_rules))]`.
pub ruleset seat_rules = (nat_tests, has_seat-empty, has_seat-full)

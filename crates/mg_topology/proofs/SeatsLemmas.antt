-- The seats of a mask as a list in ascending order.
use Rattle.std.proofs.Common.{◌≡◌, ℕ, zero, suc, ◌+◌, ◌≤◌, ◌<◌, Bool, true, false, ◌==◌, ◌↔◌, cond, List, [], ◌∷◌, length, IsTrue, inl, inr, refl, sym, ap, subst, ◌∙◌, arith}
use Rattle.std.specs.List.{filter, range_with_len, All, Contains}
use Rattle.std.specs.List.Sorted.{IsStrictlyIncreasing}
use Rattle.std.proofs.lemmas.Bool.{cases_eq, cases_Bool}
use Rattle.std.proofs.lemmas.Bool.Decides.{nat_tests}
use Rattle.std.proofs.lemmas.List.Elements.{All-filter, All-contains, filter_passes}
use Rattle.std.proofs.lemmas.List.Kept.{IsStrictlyIncreasing-filter}
use Rattle.std.proofs.lemmas.List.FromFn.{length-range_with_len, get_or-range_with_len}
use Rattle.mg_topology.specs.Mask.{seat_limit, has_seat, seats_of, seat_count, IsEmpty}
use Rattle.mg_topology.specs.aids.Lowest.{IsLowest}

-- The test q agrees with p except that it rejects the number s.
abbrev IsWithout : (ℕ → Bool) → ℕ → (ℕ → Bool) → Type 0
IsWithout p s q = (k : ℕ) → q k ≡ cond (k == s) false (p k)

-- ---- the numbers from a on that pass a test

filtered : (p : ℕ → Bool) (a n : ℕ) (b : Bool) → p a ≡ b →
    filter p (range_with_len a (suc n)) ≡ cond b (a ∷ filter p (range_with_len (a + 1) n))
    (filter p (range_with_len (a + 1) n))
filtered p a n b e = ap (λ x. cond x (a ∷ filter p (range_with_len (a + 1) n)) (filter p (range_with_len (a + 1) n))) e

pub filter_alike : (p q : ℕ → Bool) (a n : ℕ) → ((k : ℕ) → a ≤ k → k < a + n → p k ≡ q k) →
    filter p (range_with_len a n) ≡ filter q (range_with_len a n)
filter_alike p q a zero h = refl
filter_alike p q a (suc n) h =
    let here : p a ≡ q a = h a (omega arith) (omega arith) in
    let rest = filter_alike p q (a + 1) n (λ k l r. h k (omega arith) (omega arith)) in
    rw (here, rest) refl

pub filter_none : (p : ℕ → Bool) (a n : ℕ) → ((k : ℕ) → p k ≡ false) → filter p (range_with_len a n) ≡ []
filter_none p a zero h = refl
filter_none p a (suc n) h = filtered p a n false (h a) ∙ filter_none p (a + 1) n h

-- If s is the first number that p keeps, filtering with p yields s, followed by the numbers that q keeps.
pub filter_first : (p q : ℕ → Bool) (s a n : ℕ) → IsWithout p s q → a ≤ s → s < a + n → p s ≡ true →
    ((k : ℕ) → k < s → p k ≡ false)
    → filter p (range_with_len a n) ≡ s ∷ filter q (range_with_len a n)
filter_first p q s a zero w l r here least = absurd (omega (arith, l, r))
filter_first p q s a (suc n) w l r here least =
    elim (cases_eq a s) [
      | inl e ↦
          (let own : p a ≡ true = ap p e ∙ here in
          let gone : q a ≡ false = grind (arith, nat_tests, w a) in
          let rest = filter_alike p q (a + 1) n (λ k x y. grind (arith, nat_tests, w k)) in
          filtered p a n true own ∙ (rw (rest, e) (ap (λ x. s ∷ x) (sym (rw (← e) (filtered q a n false gone))))))
      | inr ne ↦
          (let none : p a ≡ false = least a (omega (arith, l, ne)) in
          let gone : q a ≡ false = grind (arith, nat_tests, w a) in
          filtered p a n false none ∙ filter_first p q s (a + 1) n w (omega (arith, l, ne)) (omega (arith, r)) here
          least
          ∙ ap (λ x. s ∷ x) (sym (filtered q a n false gone)))
    ]

longer : (b : Bool) (x : ℕ) (xs ys : List ℕ) → length xs ≡ length ys + 1 →
    length (cond b (x ∷ xs) xs) ≡ length (cond b (x ∷ ys) ys) + 1
longer true x xs ys e = omega (arith, e)
longer false x xs ys e = e

-- If p keeps s, filtering with q keeps one number fewer than filtering with p.
pub filter_fewer : (p q : ℕ → Bool) (s a n : ℕ) → IsWithout p s q → a ≤ s → s < a + n → p s ≡ true
    → length (filter p (range_with_len a n)) ≡ length (filter q (range_with_len a n)) + 1
filter_fewer p q s a zero w l r here = absurd (omega (arith, l, r))
filter_fewer p q s a (suc n) w l r here =
    elim (cases_eq a s) [
      | inl e ↦
          (let own : p a ≡ true = ap p e ∙ here in
          let gone : q a ≡ false = grind (arith, nat_tests, w a) in
          let rest = filter_alike p q (a + 1) n (λ k x y. grind (arith, nat_tests, w k)) in
          let with_own = ap length (filtered p a n true own) in
          let without_own = ap length (filtered q a n false gone) in
          omega (arith, with_own, without_own, ap length rest))
      | inr ne ↦
          (let alike : q a ≡ p a = grind (arith, nat_tests, w a) in
          let rest = filter_fewer p q s (a + 1) n w (omega (arith, l, ne)) (omega (arith, r)) here in
          longer (p a) a _ _ rest ∙ ap (λ x. x + 1) (sym (ap length (filtered q a n (p a) alike))))
    ]

length-filter_at_most : (p : ℕ → Bool) (a n : ℕ) → length (filter p (range_with_len a n)) ≤ n
length-filter_at_most p a zero = omega arith
length-filter_at_most p a (suc n) =
    let rest = length-filter_at_most p (a + 1) n in
    elim (cases_Bool (p a)) [
      | inl e ↦ omega (arith, rest, ap length (filtered p a n true e))
      | inr e ↦ omega (arith, rest, ap length (filtered p a n false e))
    ]

-- ---- masks

-- If a test agrees with a mask on all seats, filtering the seats with the test yields the seats of the mask.
pub seats_of-listed : (mask : ℕ) (p : ℕ → Bool) → ((s : ℕ) → s < seat_limit → has_seat mask s ≡ p s) →
    seats_of mask ≡ filter p (range_with_len 0 seat_limit)
unfolding seats_of
seats_of-listed mask p h = filter_alike (has_seat mask) p 0 seat_limit (λ k l r. h k (omega (arith, r)))

pub seats_of-empty : (mask : ℕ) → IsEmpty mask → seats_of mask ≡ []
unfolding seats_of
seats_of-empty mask h = filter_none (has_seat mask) 0 seat_limit h

-- The seats of a mask are its lowest seat and then the seats of the mask without it.
pub seats_of-rest : (mask rest s : ℕ) → ((k : ℕ) → has_seat rest k ≡ cond (k == s) false (has_seat mask k)) →
    IsLowest mask s → seats_of mask ≡ s ∷ seats_of rest
unfolding seats_of
seats_of-rest mask rest s w h = filter_first (has_seat mask) (has_seat rest) s 0 seat_limit w (omega arith)
    (omega (arith, h.below_limit)) h.is_in h.is_least

pub seat_count-fewer : (mask rest s : ℕ) → ((k : ℕ) → has_seat rest k ≡ cond (k == s) false (has_seat mask k)) →
    s < seat_limit → has_seat mask s ≡ true → seat_count mask ≡ seat_count rest + 1
unfolding seats_of
seat_count-fewer mask rest s w r h = filter_fewer (has_seat mask) (has_seat rest) s 0 seat_limit w (omega arith)
    (omega (arith, r)) h

pub seat_count-at_most : (mask : ℕ) → seat_count mask ≤ seat_limit
unfolding seats_of
seat_count-at_most mask = length-filter_at_most (has_seat mask) 0 seat_limit

rising_range : (a n : ℕ) → IsStrictlyIncreasing (range_with_len a n)
rising_range a n k h =
    let long = length-range_with_len a n in
    omega (arith, h, long, get_or-range_with_len a n k 0, get_or-range_with_len a n (k + 1) 0)

pub seats_of-rising : (mask : ℕ) → IsStrictlyIncreasing (seats_of mask)
unfolding seats_of
seats_of-rising mask = IsStrictlyIncreasing-filter (has_seat mask) (range_with_len 0 seat_limit)
    (rising_range 0 seat_limit)

-- ---- which seats are in the list
in_range : (a n : ℕ) → All (λ s. s < a + n) (range_with_len a n)
in_range a n k d h =
    let long = length-range_with_len a n in
    omega (arith, h, long, get_or-range_with_len a n k d)

at_head : (x : ℕ) (xs : List ℕ) → Contains (x ∷ xs) x
at_head x xs = (0, omega arith, refl)

at_tail : (x y : ℕ) (xs : List ℕ) → Contains xs y → Contains (x ∷ xs) y
at_tail x y xs (k, within, is) = (suc k, omega (arith, within), is)

passes : (p : ℕ → Bool) (s a n : ℕ) → a ≤ s → s < a + n → p s ≡ true → Contains (filter p (range_with_len a n)) s
passes p s a zero l r h = absurd (omega (arith, l, r))
passes p s a (suc n) l r h =
    elim (cases_eq a s) [
      | inl e ↦
          (let kept : Contains (filter p (range_with_len a (suc n))) a =
          rw (filtered p a n true (ap p e ∙ h)) (at_head a _) in
          subst (λ x. Contains (filter p (range_with_len a (suc n))) x) e kept)
      | inr ne ↦
          (let rest = passes p s (a + 1) n (omega (arith, l, ne)) (omega (arith, r)) h in
          elim (cases_Bool (p a)) [
            | inl e ↦ rw (filtered p a n true e) (at_tail a s _ rest)
            | inr e ↦ rw (filtered p a n false e) rest
          ])
    ]

pub seats_of-each : (mask : ℕ) → All (λ s. (s < seat_limit) × IsTrue (has_seat mask s)) (seats_of mask)
unfolding seats_of
seats_of-each mask k d h =
    let numbers = range_with_len 0 seat_limit in (
      All-filter (has_seat mask) (λ s. s < seat_limit) numbers (in_range 0 seat_limit) k d h,
      filter_passes (has_seat mask) numbers k d h,
    )

pub seats_of-contains : (mask s : ℕ) → Contains (seats_of mask) s ↔ ((s < seat_limit) × IsTrue (has_seat mask s))
unfolding seats_of
seats_of-contains mask s = (
  λ h. All-contains (λ k. (k < seat_limit) × (has_seat mask k ≡ true))
      (filter (has_seat mask) (range_with_len 0 seat_limit)) s (seats_of-each mask) h,
  λ h. passes (has_seat mask) s 0 seat_limit (omega arith) (omega (arith, h.0)) h.1,
)

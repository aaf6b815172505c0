-- Sums over the seats of a room, and over the terminations in these seats.
use Rattle.mg_engine.proofs.Common.{◌≡◌, ℕ, zero, suc, ◌+◌, ◌<◌, ◌≤◌, ◌&&◌, eqb, Bool, true, false, cond, ℤ, pos, ◌+ℤ◌, List, [], ◌∷◌, inl, inr, get_or, refl, sym, ap, ◌∙◌, arith, range_with_len, cases_eq, eq-eqb, seat_limit, has_seat, sum_of-cons, sum_of-same, count_by, nat_tests, ints, sum_of-filter, sum_of-nil, sum_of-none, sum_of-plus, All, sum_of-agree, count-cons, sum_of}
use Rattle.mg_topology.specs.Mask.{seats_of}

-- ## Sums of sums in either order

swapped : {A : Type 0} (f : A → ℕ → ℤ) (rs : List A) (ks : List ℕ) →
    sum_of (λ k. sum_of (λ t. f t k) rs) ks ≡ sum_of (λ t. sum_of (f t) ks) rs
swapped f [] ks = sum_of-none (λ k. sum_of (λ t. f t k) []) ks (λ k. sum_of-nil (λ t. f t k)) ∙
    sym (sum_of-nil (λ t. sum_of (f t) ks))
swapped f (r ∷ rs) ks = sum_of-plus (λ k. sum_of (λ t. f t k) (r ∷ rs)) (f r) (λ k. sum_of (λ t. f t k) rs) ks
    (λ k. sum_of-cons (λ t. f t k) r rs) ∙ ap (λ (z : ℤ). sum_of (f r) ks +ℤ z) (swapped f rs ks)
    ∙ sym (sum_of-cons (λ t. sum_of (f t) ks) r rs)

-- The sum over the seats of a mask is the sum over all seats, with 0 for seats that are not in the mask.
pub sum-seats_of : (mask : ℕ) (f : ℕ → ℤ) →
    sum_of f (seats_of mask) ≡ sum_of (λ seat. cond (has_seat mask seat) (f seat) (pos 0)) (range_with_len 0 seat_limit)
unfolding seats_of
sum-seats_of mask f = sum_of-filter (has_seat mask) f (range_with_len 0 seat_limit)

-- ## Sums in which only one seat counts

abbrev alone : (ℕ → ℤ) → ℕ → ℕ → ℤ
alone h s k = cond (eqb s k) (h k) (pos 0)

alone_at : (h : ℕ → ℤ) (s k : ℕ) (b : Bool) → eqb s k ≡ b → alone h s k ≡ cond b (h k) (pos 0)
alone_at h s k b e = ap (λ (x : Bool). cond x (h k) (pos 0)) e

none_above : (h : ℕ → ℤ) (s a n : ℕ) → s < a → sum_of (alone h s) (range_with_len a n) ≡ pos 0
none_above h s a zero l = sum_of-nil (alone h s)
none_above h s a (suc n) l =
    let no : eqb s a ≡ false = grind (arith, nat_tests) in
    let here = alone_at h s a false no in
    let rest = none_above h s (a + 1) n (omega (arith, l)) in
    sum_of-cons (alone h s) a (range_with_len (a + 1) n) ∙ omega (arith, ints, here, rest)

one_among : (h : ℕ → ℤ) (s a n : ℕ) → a ≤ s → s < a + n → sum_of (alone h s) (range_with_len a n) ≡ h s
one_among h s a zero l r = absurd (omega (arith, l, r))
one_among h s a (suc n) l r = elim (cases_eq s a) [
  | inl e ↦
      (let here = alone_at h s a true (eq-eqb s a e) ∙ ap h (sym e) in
      let rest = none_above h s (a + 1) n (omega (arith, e)) in
      sum_of-cons (alone h s) a (range_with_len (a + 1) n) ∙ omega (arith, ints, here, rest))
  | inr ne ↦
      (let no : eqb s a ≡ false = grind (arith, nat_tests) in
      let here = alone_at h s a false no in
      let rest = one_among h s (a + 1) n (omega (arith, l, ne)) (omega (arith, r)) in
      sum_of-cons (alone h s) a (range_with_len (a + 1) n) ∙ omega (arith, ints, here, rest))
]

part_among : (b : Bool) (h : ℕ → ℤ) (s n : ℕ) → s < n →
    sum_of (λ k. cond (b && eqb s k) (h k) (pos 0)) (range_with_len 0 n) ≡ cond b (h s) (pos 0)
part_among true h s n lt = one_among h s 0 n (omega arith) (omega (arith, lt))
part_among false h s n lt = sum_of-none (λ (k : ℕ). pos 0) (range_with_len 0 n) (λ k. refl)

-- ## Sums in which at most one item passes a test

module _ {A : Type 0} (p : A → Bool) (z : ℤ) where
  abbrev at : A → ℤ
  at t = cond (p t) z (pos 0)

  pub none_pass : (rs : List A) → count_by p rs ≡ 0 → sum_of at rs ≡ pos 0
  none_pass [] e = sum_of-nil at
  none_pass (r ∷ rs) e = grind (arith, ints, sum_of-cons at r rs, count-cons p r rs, none_pass rs)

  pub one_passes : (rs : List A) → count_by p rs ≡ 1 → sum_of at rs ≡ z
  one_passes [] e = absurd (omega (arith, e))
  one_passes (r ∷ rs) e = grind (arith, ints, sum_of-cons at r rs, count-cons p r rs, none_pass rs, one_passes rs)

  by_count : (rs : List A) (n : ℕ) → count_by p rs ≡ n → n ≤ 1 → (n ≡ 0 → z ≡ pos 0) → z ≡ sum_of at rs
  by_count rs zero e few none = none refl ∙ sym (none_pass rs e)
  by_count rs (suc n) e few none = sym (one_passes rs (e ∙ omega (arith, few)))

-- ## Seats and the items in them

-- Suppose that each item has a seat below n, that no two items have the same seat, and that a seat without an item adds
-- 0. Then the sum over n seats is the sum over the items in these seats.
pub seat_sums : {A : Type 0} (rs : List A) (is_in : A → Bool) (seat : A → ℕ) (n : ℕ) (h : ℕ → ℤ) (g : A → ℤ)
    → All (λ t. seat t < n) rs → All (λ t. g t ≡ cond (is_in t) (h (seat t)) (pos 0)) rs
    → ((s : ℕ) → count_by (λ t. is_in t && eqb (seat t) s) rs ≤ 1)
    → ((s : ℕ) → count_by (λ t. is_in t && eqb (seat t) s) rs ≡ 0 → h s ≡ pos 0)
    → sum_of h (range_with_len 0 n) ≡ sum_of g rs
seat_sums {A} rs is_in seat n h g below parts once none =
    let part = λ (t : A). λ (k : ℕ). cond (is_in t && eqb (seat t) k) (h k) (pos 0) in
    sum_of-same h (λ k. sum_of (λ t. part t k) rs) (range_with_len 0 n)
    (λ k. by_count (λ t. is_in t && eqb (seat t) k) (h k) rs (count_by (λ t. is_in t && eqb (seat t) k) rs) refl
    (once k) (none k))
    ∙ swapped part rs (range_with_len 0 n) ∙ sum_of-agree (λ t. sum_of (part t) (range_with_len 0 n)) g rs
    (λ i d lt. let t = get_or rs i d in part_among (is_in t) h (seat t) n (below i d lt) ∙ sym (parts i d lt))

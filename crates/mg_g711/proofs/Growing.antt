-- Strictly increasing functions, and how many of their values are at most a bound.
use Rattle.std.proofs.Common.{◌≡◌, ℕ, Bool, true, false, ◌+◌, ◌<◌, ◌≤◌, ◌⊎◌, max, min, cond, arith, sym, inl, inr, subst, nat_le, nat_lt, suc, zero}
use Rattle.std.specs.List.{count_by, range_with_len}
use Rattle.std.proofs.lemmas.List.Sums.{sum_by-cons}
use Rattle.std.proofs.lemmas.Bool.{ltb-true}
use Rattle.std.proofs.lemmas.Bool.Decides.{leb_tells}
use Rattle.mg_g711.proofs.Computed.{below_or_last, each_below, holds_below}

-- The function f is strictly increasing from 0 to n.
pub record GrowsUpTo (n : ℕ) (f : ℕ → ℕ) : Type 0 where
  pub step : (k : ℕ) → k < n → f k < f (suc k)

pub GrowsUpTo-tested : (n : ℕ) (f : ℕ → ℕ) → each_below (λ k. nat_lt (f k) (f (suc k))) n ≡ true → GrowsUpTo n f
GrowsUpTo-tested n f h = record {
  step = λ k l. ltb-true (f k) (f (suc k))
      (holds_below (λ i. nat_lt (f i) (f (suc i))) n h k l);
}

pub grows : (n : ℕ) (f : ℕ → ℕ) → GrowsUpTo n f → (j k : ℕ) → j ≤ k → k ≤ n → f j ≤ f k
grows n f up j zero h l = let same : j ≡ 0 = omega arith in subst (λ (i : ℕ). f j ≤ f i) same (omega arith)
grows n f up j (suc k) h l =
    elim (below_or_last j (suc k) h) [
      | inl below ↦
          let before : f j ≤ f k = grows n f up j k (omega arith) (omega arith) in
          let last : f k < f (suc k) = up.step k (omega arith) in
          omega arith
      | inr same ↦ subst (λ (i : ℕ). f j ≤ f i) same (omega arith)
    ]

pub grows_strictly : (n : ℕ) (f : ℕ → ℕ) → GrowsUpTo n f → (j k : ℕ) → j < k → k ≤ n → f j < f k
grows_strictly n f up j k h l =
    let first : f j < f (suc j) = up.step j (omega arith) in
    let rest : f (suc j) ≤ f k = grows n f up (suc j) k (omega arith) l in
    omega arith

-- If f 0 is at most v, then f k is at most v for some k up to n. Unless k is n, f (k + 1) is greater than v.
pub last_within : (f : ℕ → ℕ) (v n : ℕ) → f 0 ≤ v → (k : ℕ) × (k ≤ n) × (f k ≤ v) × (k < n → v < f (suc k))
last_within f v zero low = (0, omega arith, low, λ h. absurd (omega arith))
last_within f v (suc n) low =
    let here : (f (suc n) ≤ v) ⊎ (v < f (suc n)) = grind arith in
    elim here [
      | inl within ↦ (suc n, omega arith, within, λ h. absurd (omega arith))
      | inr above ↦
          let (k, small, from, to) = last_within f v n low in (
            k,
            omega arith,
            from,
            λ h. elim (below_or_last k n (omega arith)) [
              | inl below ↦ to below
              | inr same ↦ subst (λ (i : ℕ). v < f (suc i)) (sym same) above
            ],
          )
    ]

-- The count for a range follows from the count for the range without its first number.
count_step : (b : Bool) (x v k n a rest : ℕ) → ((b ≡ true) × (x ≤ v)) ⊎ ((b ≡ false) × (v < x)) → (a ≤ k → x ≤ v) →
    (k < a → v < x) → rest + (a + 1) ≡ max (a + 1) (min (k + 1) (a + 1 + n)) →
    cond b 1 0 + rest + a ≡ max a (min (k + 1) (a + suc n))
count_step b x v k n a rest tells below above e = grind arith

-- Let f be at most v for exactly the numbers up to k. Then counting such numbers in a range counts the numbers of the
-- range up to k.
count_split : (f : ℕ → ℕ) (v k n a : ℕ) → ((j : ℕ) → j ≤ k → f j ≤ v) → ((j : ℕ) → k < j → j < a + n → v < f j) →
    count_by (λ j. nat_le (f j) v) (range_with_len a n) + a ≡ max a (min (k + 1) (a + n))
count_split f v k zero a below above = omega arith
count_split f v k (suc n) a below above =
    let rest : count_by (λ j. nat_le (f j) v) (range_with_len (a + 1) n) +
    (a + 1) ≡ max (a + 1) (min (k + 1) (a + 1 + n)) =
    count_split f v k n (a + 1) below (λ j h l. above j h (omega arith)) in
    rw (sum_by-cons (λ j. cond (nat_le (f j) v) 1 0) a (range_with_len (a + 1) n))
    (count_step (nat_le (f a) v) (f a) v k n a (count_by (λ j. nat_le (f j) v) (range_with_len (a + 1) n))
    (leb_tells (f a) v) (below a) (λ h. above a h (omega arith)) rest)

-- Let f be strictly increasing from 0 to n. Let v be at least f k and, unless k is n, less than f (k + 1). Then f is at
-- most v for exactly k of the numbers from 1 to n.
pub count_within : (n : ℕ) (f : ℕ → ℕ) → GrowsUpTo n f → (v k : ℕ) → k ≤ n → f k ≤ v → (k < n → v < f (suc k)) →
    count_by (λ j. nat_le (f j) v) (range_with_len 1 n) ≡ k
count_within n f up v k small low high =
    let split : count_by (λ j. nat_le (f j) v) (range_with_len 1 n) + 1 ≡ max 1 (min (k + 1) (1 + n)) =
    count_split f v k n 1
    (λ j h. let below : f j ≤ f k = grows n f up j k h small in omega arith)
    (λ j h l. let above : f (suc k) ≤ f j = grows n f up (suc k) j (omega arith) (omega arith) in
    let next : v < f (suc k) = high (omega arith) in omega arith) in
    omega arith

-- The counters of results, which are one list in a tally and two arrays in the counts.
use Rattle.std.proofs.Common.{◌≡◌, ℕ, zero, suc, ◌+◌, ◌<◌, List, [], ◌∷◌, map, take, drop, refl, ap, ◌∙◌, arith}
use Rattle.std.specs.Prelude.{slice_index, slice_set}
use Rattle.mg_core.specs.World.{capped, one_more_at}

-- The counters after counter `k` was increased by one, unless it had reached its maximum.
abbrev pub raised : ℕ → List ℕ → List ℕ
raised k counts = slice_set counts k (capped (slice_index counts k + 1))

pub capped_once : (n : ℕ) → capped (n + 1) ≡ capped (capped n + 1)
capped_once n = omega arith

capped_more : (k : ℕ) (xs : List ℕ) → map capped (one_more_at k xs) ≡ raised k (map capped xs)
capped_more k [] = refl
capped_more zero (x ∷ xs) = ap (λ (n : ℕ). n ∷ map capped xs) (capped_once x)
capped_more (suc k) (x ∷ xs) = ap (λ (l : List ℕ). capped x ∷ l) (capped_more k xs)

-- ## The counters before an index

take_more_at : (n k : ℕ) (xs : List ℕ) → k < n → take n (one_more_at k xs) ≡ one_more_at k (take n xs)
take_more_at zero k xs lt = absurd (omega (arith, lt))
take_more_at (suc n) k [] lt = refl
take_more_at (suc n) zero (x ∷ xs) lt = refl
take_more_at (suc n) (suc k) (x ∷ xs) lt = ap (λ (l : List ℕ). x ∷ l) (take_more_at n k xs (omega (arith, lt)))

drop_same : (n k : ℕ) (xs : List ℕ) → k < n → drop n (one_more_at k xs) ≡ drop n xs
drop_same zero k xs lt = absurd (omega (arith, lt))
drop_same (suc n) k [] lt = refl
drop_same (suc n) zero (x ∷ xs) lt = refl
drop_same (suc n) (suc k) (x ∷ xs) lt = drop_same n k xs (omega (arith, lt))

pub raised_first : (n k : ℕ) (xs : List ℕ) → k < n →
    map capped (take n (one_more_at k xs)) ≡ raised k (map capped (take n xs))
raised_first n k xs lt = ap (map capped) (take_more_at n k xs lt) ∙ capped_more k (take n xs)

pub others_after : (n k : ℕ) (xs : List ℕ) → k < n → map capped (drop n (one_more_at k xs)) ≡ map capped (drop n xs)
others_after n k xs lt = ap (map capped) (drop_same n k xs lt)

-- ## The counters from an index on

later : (n k : ℕ) → suc n + k ≡ suc (n + k)
later n k = omega arith

take_same : (n k : ℕ) (xs : List ℕ) → take n (one_more_at (n + k) xs) ≡ take n xs
take_same zero k xs = refl
take_same (suc n) k [] = refl
take_same (suc n) k (x ∷ xs) = ap (λ (m : ℕ). take (suc n) (one_more_at m (x ∷ xs))) (later n k) ∙
    ap (λ (l : List ℕ). x ∷ l) (take_same n k xs)

drop_more_at : (n k : ℕ) (xs : List ℕ) → drop n (one_more_at (n + k) xs) ≡ one_more_at k (drop n xs)
drop_more_at zero k xs = ap (λ (m : ℕ). one_more_at m xs) none_before
  where
    none_before : 0 + k ≡ k
    none_before = omega arith
drop_more_at (suc n) k [] = refl
drop_more_at (suc n) k (x ∷ xs) = ap (λ (m : ℕ). drop (suc n) (one_more_at m (x ∷ xs))) (later n k) ∙
    drop_more_at n k xs

pub raised_after : (n k : ℕ) (xs : List ℕ) →
    map capped (drop n (one_more_at (n + k) xs)) ≡ raised k (map capped (drop n xs))
raised_after n k xs = ap (map capped) (drop_more_at n k xs) ∙ capped_more k (drop n xs)

pub others_first : (n k : ℕ) (xs : List ℕ) → map capped (take n (one_more_at (n + k) xs)) ≡ map capped (take n xs)
others_first n k xs = ap (map capped) (take_same n k xs)

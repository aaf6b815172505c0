-- Splitting a list at the elements that satisfy a test.
use Rattle.std.proofs.Common.{◌≡◌, ℕ, suc, ◌+◌, ◌≤◌, Bool, true, false, List, [], ◌∷◌, ◌++◌, length, take, drop, reverse, refl, arith}
use Rattle.std.proofs.lemmas.List.{reverse-append, length-reverse}
use Rattle.std.specs.List.{prefix_len, position_or_len, suffix_len, slice_split}

pub one_more : (n : ℕ) → 1 + n ≡ suc n
one_more n = omega arith

-- The first part of the list xs is `front`, and `rest` splits into an empty part and the other parts.
pub record BeginsWith (p : ℕ → Bool) (xs front rest : List ℕ) : Type 0 where
  pub others : List (List ℕ)
  pub parts : slice_split p xs ≡ front ∷ others
  pub after : slice_split p rest ≡ [] ∷ others

split_step : (p : ℕ → Bool) (x : ℕ) (xs : List ℕ) (b : Bool) → p x ≡ b →
    BeginsWith p xs (take (position_or_len p xs) xs) (drop (position_or_len p xs) xs)
    → BeginsWith p (x ∷ xs) (take (position_or_len p (x ∷ xs)) (x ∷ xs)) (drop (position_or_len p (x ∷ xs)) (x ∷ xs))
split_step p x xs true e h = record { others = slice_split p xs; parts = rw e refl; after = rw e (rw e refl) }
split_step p x xs false e h = record {
  others = h.others;
  parts = rw e (rw (one_more (position_or_len p xs), h.parts) refl);
  after = rw e (rw (one_more (position_or_len p xs)) h.after);
}

pub split_first : (p : ℕ → Bool) (xs : List ℕ) →
    BeginsWith p xs (take (position_or_len p xs) xs) (drop (position_or_len p xs) xs)
split_first p [] = record { others = []; parts = refl; after = refl }
split_first p (x ∷ xs) = split_step p x xs (p x) refl (split_first p xs)

-- By these lemmas, the first element after the longest prefix whose elements satisfy p does not satisfy p.
fails_step : (p : ℕ → Bool) (x : ℕ) (xs : List ℕ) (b : Bool) → p x ≡ b →
    ((y : ℕ) (ys : List ℕ) → drop (prefix_len p xs) xs ≡ y ∷ ys → p y ≡ false)
    → (y : ℕ) (ys : List ℕ) → drop (prefix_len p (x ∷ xs)) (x ∷ xs) ≡ y ∷ ys → p y ≡ false
fails_step p x xs true e h y ys same = h y ys (rw (e, one_more (prefix_len p xs)) at same)
fails_step p x xs false e h y ys same =
    let first : x ∷ xs ≡ y ∷ ys = rw e at same in
    let one : x ≡ y = cc in
    rw (← one) e

pub front_fails : (p : ℕ → Bool) (xs : List ℕ) (y : ℕ) (ys : List ℕ) → drop (prefix_len p xs) xs ≡ y ∷ ys → p y ≡ false
front_fails p [] y ys same = cc
front_fails p (x ∷ xs) y ys same = fails_step p x xs (p x) refl (front_fails p xs) y ys same

prefix_step : (p : ℕ → Bool) (x : ℕ) (xs : List ℕ) (y : ℕ) (b : Bool) → p x ≡ b →
    prefix_len p (xs ++ y ∷ []) ≤ length xs → prefix_len p (x ∷ (xs ++ y ∷ [])) ≤ length (x ∷ xs)
prefix_step p x xs y true e h = rw e (omega (arith, h))
prefix_step p x xs y false e h = rw e (omega arith)

prefix_push : (p : ℕ → Bool) (xs : List ℕ) (y : ℕ) → p y ≡ false → prefix_len p (xs ++ y ∷ []) ≤ length xs
prefix_push p [] y e = rw e (omega arith)
prefix_push p (x ∷ xs) y e = prefix_step p x xs y (p x) refl (prefix_push p xs y e)

-- If the first element does not satisfy p, the longest suffix whose elements satisfy p is shorter than the list.
pub suffix_short : (p : ℕ → Bool) (x : ℕ) (xs : List ℕ) → p x ≡ false → suffix_len p (x ∷ xs) ≤ length xs
suffix_short p x xs e = rw (reverse-append (x ∷ []) xs)
    (omega (arith, prefix_push p (reverse xs) x e, length-reverse xs))

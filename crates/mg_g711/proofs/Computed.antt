-- Proofs by computation: a test that is evaluated for each number below a bound.
use Rattle.std.proofs.Common.{◌≡◌, ℕ, Bool, true, ◌<◌, ◌≤◌, ◌⊎◌, ◌&&◌, arith, sym, inl, inr, subst, suc, zero}
use Rattle.std.proofs.lemmas.Bool.Decides.{nat_tests}

-- Whether a test succeeds for each number below n.
abbrev pub each_below : (ℕ → Bool) → ℕ → Bool
each_below p zero = true
each_below p (suc n) = p n && each_below p n

pub and_parts : (a b : Bool) → a && b ≡ true → (a ≡ true) × (b ≡ true)
and_parts a b h = grind (arith, nat_tests)

pub below_or_last : (k n : ℕ) → k ≤ n → (k < n) ⊎ (k ≡ n)
below_or_last k n h = grind arith

pub holds_below : (p : ℕ → Bool) (n : ℕ) → each_below p n ≡ true → (k : ℕ) → k < n → p k ≡ true
holds_below p zero h k l = absurd (omega arith)
holds_below p (suc n) h k l =
    let parts = and_parts (p n) (each_below p n) h in
    elim (below_or_last k n (omega arith)) [
      | inl below ↦ holds_below p n parts.1 k below
      | inr last ↦ subst (λ (i : ℕ). p i ≡ true) (sym last) parts.0
    ]

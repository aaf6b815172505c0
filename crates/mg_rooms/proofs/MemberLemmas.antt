-- Lemmas on a context's members.
use Rattle.mg_rooms.proofs.Common.{◌≡◌, ℕ, zero, suc, ◌+◌, List, [], ◌∷◌, Some, None, refl, sym, arith, ◌==◌, position_from, without}
use Rattle.std.specs.List.{remove}
use Rattle.std.proofs.lemmas.Bool.Decides.{nat_tests}
use Rattle.mg_rooms.proofs.OrderLemmas.{IsFirst, first_at_zero}

without_first : (n : ℕ) (ms : List ℕ) (s : ℕ) → IsFirst (λ m. m == n) ms s → remove ms s ≡ without n ms
without_first n [] s h = absurd h
without_first n (m ∷ ms) zero h = rw h refl
without_first n (m ∷ ms) (suc s) h = grind (arith, nat_tests, h.0, without_first n ms s h.1)

pub without_some : (n : ℕ) (ms : List ℕ) (s : ℕ) → Some s ≡ position_from (λ m. m == n) 0 ms →
    remove ms s ≡ without n ms
without_some n ms s h = without_first n ms s (first_at_zero (λ m. m == n) ms s (sym h))

pub without_none : (n k : ℕ) (ms : List ℕ) → None ≡ position_from (λ m. m == n) k ms → ms ≡ without n ms
without_none n k [] h = refl
without_none n k (m ∷ ms) h = grind (arith, nat_tests, without_none n (k + 1) ms)

pub ruleset rules = (without_some, without_none)

-- The empty mask contains no seat.
use Rattle.std.proofs.Common.{◌≡◌, ℕ, ◌==◌, false, ap}
use Rattle.std.proofs.lemmas.Nat.Bits.{bit_at-zero}
use Rattle.std.proofs.lemmas.Grind.{common_steps}
use Rattle.mg_topology.specs.Mask.{has_seat}

pub has_seat-empty : (seat : ℕ) → has_seat 0 seat ≡ false
unfolding has_seat
has_seat-empty seat = ap (λ n. n == 1) (bit_at-zero seat)

pub ruleset seat_rules = (common_steps, has_seat-empty)

-- The lowest seat of a set.
use Rattle.std.specs.Prelude.{ℕ, ◌<◌, IsTrue, IsFalse}
use Rattle.mg_topology.specs.Mask.{seat_limit, has_seat}

-- The seat is the lowest of the set.
pub record IsLowest (mask seat : ℕ) : Type 0 where
  pub below_limit : seat < seat_limit
  pub is_in : IsTrue (has_seat mask seat)
  pub is_least : (s : ℕ) → s < seat → IsFalse (has_seat mask s)

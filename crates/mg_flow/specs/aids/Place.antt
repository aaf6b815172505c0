-- The limits of places.
use Rattle.std.specs.Prelude.{ℕ, ◌<◌}
use Rattle.mg_words.specs.Limits.{context_limit}
use Rattle.mg_topology.specs.Mask.{seat_limit}
use Rattle.mg_flow.specs.declared.place.Place.{Place}

-- The room is below the limit on contexts, and the seat is below the limit on seats.
pub record IsWithinLimits (place : Place) : Type 0 where
  pub room : place.room < context_limit
  pub seat : place.seat < seat_limit

-- The place with this seat in the same room.
abbrev pub sibling_place : Place → ℕ → Place
sibling_place place seat = record { room = place.room; seat = seat }

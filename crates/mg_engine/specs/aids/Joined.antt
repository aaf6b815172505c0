-- The rooms that the terminations' rows are joined to.
use Rattle.std.specs.Prelude.{◌≡◌, ℕ, ◌==◌, Option, Some, None, List, slice_index_or}
use Rattle.std.specs.Prelude.{if◌then◌else◌}
use Rattle.mg_words.specs.declared.mode.Mode.{Mode}
use Rattle.mg_words.specs.Mode.{talks}
use Rattle.mg_rooms.specs.declared.record.Record.{Record}
use Rattle.mg_rooms.specs.Registry.{Registry}
use Rattle.mg_flow.specs.declared.place.Place.{Place}
use Rattle.mg_engine.specs.aids.Place.{IsOnPlace}

-- The room that a row is joined to.
abbrev pub room_of_row : List (Option ℕ) → ℕ → Option ℕ
room_of_row joined row = slice_index_or joined row None

-- The room that a member's row is joined to: the member's own room if the member talks, and otherwise none.
abbrev pub room_for : Mode → ℕ → Option ℕ
room_for mode room = if talks mode then Some room else None

-- The row of a member is joined to the member's room if the member talks. No other row is joined to a room.
pub record AreJoined (w : Registry) (joined : List (Option ℕ)) : Type 0 where
  pub each : (n : ℕ) (r : Record) (p : Place) → IsOnPlace w n r p
      → room_of_row joined r.slot ≡ room_for r.mode p.room
  pub nobody : (row room : ℕ) → room_of_row joined row ≡ Some room
      → (n : ℕ) × (r : Record) × (p : Place) × IsOnPlace w n r p × (r.slot ≡ row)

-- The row is joined to this room (or to no room, for `None`), and all other rows are unchanged.
abbrev pub SetsRow : List (Option ℕ) → List (Option ℕ) → ℕ → Option ℕ → Type 0
SetsRow old new row room =
    (other : ℕ) → room_of_row new other ≡ (if other == row then room else room_of_row old other)

-- The slots of members, by their places.
use Rattle.std.specs.Prelude.{◌≡◌, ℕ, ◌+◌, ◌*◌, List, slice_index_or}
use Rattle.mg_words.specs.Limits.{context_limit}
use Rattle.mg_topology.specs.Mask.{seat_limit}
use Rattle.mg_rooms.specs.declared.record.Record.{Record}
use Rattle.mg_rooms.specs.Registry.{Registry}
use Rattle.mg_flow.specs.declared.place.Place.{Place}
use Rattle.mg_engine.specs.aids.Place.{IsOnPlace}

-- The number of places in all rooms.
abbrev pub place_count : ℕ
place_count = context_limit * seat_limit

-- The index of a place among the places of all rooms.
abbrev pub index_of : Place → ℕ
index_of place = place.room * seat_limit + place.seat

-- The slot at a place.
abbrev pub slot_at : List ℕ → Place → ℕ
slot_at seating place = slice_index_or seating (index_of place) 0

-- The place of each member has the member's slot.
abbrev pub AreSeated : Registry → List ℕ → Type 0
AreSeated w seating =
    (n : ℕ) (r : Record) (p : Place) → IsOnPlace w n r p → slot_at seating p ≡ r.slot

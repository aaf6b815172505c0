-- The members in the table of flows, and the changes to the table when a member enters, leaves or changes its mode.
use Rattle.std.specs.Prelude.{◌≡◌, ℕ, ◌||◌, true, false, IsTrue, List, if◌then◌else◌}
use Rattle.mg_words.specs.declared.mode.Mode.{Mode}
use Rattle.mg_words.specs.Mode as mode
use Rattle.mg_rooms.specs.declared.record.Record.{Record}
use Rattle.mg_rooms.specs.Registry.{Registry}
use Rattle.mg_flow.specs.declared.place.Place.{Place}
use Rattle.mg_flow.specs.Place.{is_same_place, are_together}
use Rattle.mg_flow.specs.aids.Table.{RoomFlows, holds, talks_at, listens_at, hears, SetsPlace}
use Rattle.mg_engine.specs.aids.Place.{IsOnPlace}

-- A member enters at a place with a mode. The new member and each other member of the room hear each other.
pub record Enters (old new : List RoomFlows) (at : Place) (m : Mode) : Type 0 where
  pub place : SetsPlace old new at true (mode.talks m) (mode.listens m)
  pub hears : (t l : Place) → hears new t l
      ≡ (if is_same_place t at || is_same_place l at then are_together (holds new) t l
      else hears old t l)

-- The member at a place leaves.
pub record Leaves (old new : List RoomFlows) (at : Place) : Type 0 where
  pub place : SetsPlace old new at false false false
  pub hears : (t l : Place) → hears new t l
      ≡ (if is_same_place t at || is_same_place l at then false else hears old t l)

-- The member at a place changes its mode.
pub record TakesMode (old new : List RoomFlows) (at : Place) (m : Mode) : Type 0 where
  pub place : SetsPlace old new at true (mode.talks m) (mode.listens m)
  pub hears : (t l : Place) → hears new t l ≡ hears old t l

-- The table agrees with the member's record: the place is held, and its member talks and listens according to the mode.
pub record SaysOf (table : List RoomFlows) (r : Record) (p : Place) : Type 0 where
  pub held : IsTrue (holds table p)
  pub talks : talks_at table p ≡ mode.talks r.mode
  pub listens : listens_at table p ≡ mode.listens r.mode

-- Each termination holds its place with its mode, and no other place is held.
pub record HasMembers (w : Registry) (table : List RoomFlows) : Type 0 where
  pub each : (n : ℕ) (r : Record) (p : Place) → IsOnPlace w n r p → SaysOf table r p
  pub nobody : (p : Place) → IsTrue (holds table p)
      → (n : ℕ) × (r : Record) × IsOnPlace w n r p

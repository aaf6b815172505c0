-- The seats of a room, and the masks of each listener in the room.
use Rattle.std.specs.Prelude.{◌≡◌, ℕ, ◌<◌, Bool, not, ◌&&◌, ◌==◌, if◌then◌else◌, List, []}
use Rattle.std.specs.Prelude.{slice_index}
use Rattle.mg_topology.specs.Mask.{seat_limit, has_seat, IsEmpty}
use Rattle.mg_topology.specs.aids.Topology.{TopologyState, holds, hears, StandsFor}
use Rattle.mg_flow.specs.aids.Table.{RoomFlows}

-- The room is empty: no member has entered it.
pub record IsVacant (room : RoomFlows) : Type 0 where
  pub topology : StandsFor room.topology []
  pub talks : IsEmpty room.talks
  pub listens : IsEmpty room.listens

-- The seat is held, talks and listens as the three flags say, and every other seat is unchanged.
pub record SetsSeat (old new : RoomFlows) (seat : ℕ)
    (is_held does_talk does_listen : Bool) : Type 0 where
  pub held : (s : ℕ) →
      holds new.topology s ≡ (if s == seat then is_held else holds old.topology s)
  pub talkers : (s : ℕ) →
      has_seat new.talks s ≡ (if s == seat then does_talk else has_seat old.talks s)
  pub listeners : (s : ℕ) →
      has_seat new.listens s ≡ (if s == seat then does_listen else has_seat old.listens s)

-- Whether the talker's speech flows to the listener.
abbrev pub flows_to : TopologyState → (talks listens : ℕ) → (talker listener : ℕ) → Bool
flows_to topology talks listens talker listener =
    has_seat talks talker && (has_seat listens listener && hears topology talker listener)

-- Whether the talker talks, and is another member that the last word mutes for the listener.
abbrev pub is_blocked_for : TopologyState → (talks : ℕ) → (talker listener : ℕ) → Bool
is_blocked_for topology talks talker listener =
    has_seat talks talker
    && (holds topology talker
    && (holds topology listener
    && (not (talker == listener) && not (hears topology talker listener))))

-- For each listener, the masks contain the talkers whose speech flows to the listener and the talkers that are silenced
-- for it.
pub record AreMasks (room : RoomFlows) (open_masks silenced_masks : List ℕ) : Type 0 where
  pub flows : (talker listener : ℕ) → listener < seat_limit →
      has_seat (slice_index open_masks listener) talker
      ≡ flows_to room.topology room.talks room.listens talker listener
  pub kept : (talker listener : ℕ) → listener < seat_limit →
      has_seat (slice_index silenced_masks listener) talker
      ≡ is_blocked_for room.topology room.talks talker listener

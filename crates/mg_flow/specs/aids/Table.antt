-- The state of a flow table, and the lists of edits that it represents (not from a standard).
use Rattle.std.specs.Prelude.{◌≡◌, ◌≢◌, ℕ, Bool, not, ◌&&◌, ◌==◌, if◌then◌else◌, List, [], ◌∷◌}
use Rattle.std.specs.Prelude.{length, slice_index_or}
use Rattle.mg_topology.specs.declared.triple.Triple.{Triple}
use Rattle.mg_topology.specs.Mask.{has_seat}
use Rattle.mg_topology.specs.aids.Topology as topology
use Rattle.mg_topology.specs.Triple.{mentions, word_of}
use Rattle.mg_flow.specs.declared.place.Place.{Place}
use Rattle.mg_flow.specs.Place.{is_same_place, are_together}
use Rattle.mg_flow.specs.Edits.{FlowEdit, edits_in, talks_in, listens_in}
use Rattle.mg_words.specs.Limits.{context_limit}

-- The state of a room: its topology, the seats that talk, and the seats that listen.
pub record RoomFlows : Type 0 where
  pub topology : topology.TopologyState
  pub talks : ℕ
  pub listens : ℕ

-- A room without members.
abbrev pub vacant : RoomFlows
vacant = record { topology = record { held = 0; rows = [] }; talks = 0; listens = 0 }

-- The room with this number in the table. A room that is not in the table is vacant.
abbrev pub room_at : List RoomFlows → ℕ → RoomFlows
room_at table room = slice_index_or table room vacant

-- Whether the place is held.
abbrev pub holds : List RoomFlows → Place → Bool
holds table place = topology.holds (room_at table place.room).topology place.seat

-- Whether the member at the place talks.
abbrev pub talks_at : List RoomFlows → Place → Bool
talks_at table place = has_seat (room_at table place.room).talks place.seat

-- Whether the member at the place listens.
abbrev pub listens_at : List RoomFlows → Place → Bool
listens_at table place = has_seat (room_at table place.room).listens place.seat

-- Whether the listener hears the talker, which must be in the same room.
abbrev pub hears : List RoomFlows → Place → Place → Bool
hears table talker listener =
    (talker.room == listener.room)
    && topology.hears (room_at table talker.room).topology talker.seat listener.seat

-- Whether the talker's speech flows to the listener.
abbrev pub flows : List RoomFlows → Place → Place → Bool
flows table talker listener =
    talks_at table talker && (listens_at table listener && hears table talker listener)

-- Whether the talker is silenced for the listener.
abbrev pub is_silenced : List RoomFlows → Place → Place → Bool
is_silenced table talker listener =
    talks_at table talker
    && (are_together (holds table) talker listener && not (hears table talker listener))

-- The table represents the edits: the two agree on each room and each place.
pub record StandsFor (table : List RoomFlows) (es : List FlowEdit) : Type 0 where
  pub topologies : (room : ℕ) →
      topology.StandsFor (room_at table room).topology (edits_in room es)
  pub talkers : (place : Place) → talks_at table place ≡ talks_in es place
  pub listeners : (place : Place) → listens_at table place ≡ listens_in es place

-- The table represents some list of edits.
abbrev pub StandsForSome : List RoomFlows → Type 0
StandsForSome table = ∥ ((es : List FlowEdit) × StandsFor table es) ∥₁

-- All other rooms are unchanged, and so are their places.
abbrev pub KeepsOthers : List RoomFlows → List RoomFlows → ℕ → Type 0
KeepsOthers old new room = (other : ℕ) → other ≢ room → room_at new other ≡ room_at old other

-- The place is held, talks and listens as the three flags say, and every other place is unchanged.
pub record SetsPlace (old new : List RoomFlows) (place : Place)
    (is_held does_talk does_listen : Bool) : Type 0 where
  pub held : (p : Place) →
      holds new p ≡ (if is_same_place p place then is_held else holds old p)
  pub talkers : (p : Place) →
      talks_at new p ≡ (if is_same_place p place then does_talk else talks_at old p)
  pub listeners : (p : Place) →
      listens_at new p ≡ (if is_same_place p place then does_listen else listens_at old p)

-- The same places are held, talk and listen as before the call.
pub record KeepsPlaces (old new : List RoomFlows) : Type 0 where
  pub held : (p : Place) → holds new p ≡ holds old p
  pub talkers : (p : Place) → talks_at new p ≡ talks_at old p
  pub listeners : (p : Place) → listens_at new p ≡ listens_at old p

-- Whether the listener hears the talker after these triples, in order. The flag says whether the listener heard the
-- talker before.
abbrev pub hears_after : List Triple → ℕ → ℕ → Bool → Bool
hears_after [] talker listener did = did
hears_after (x ∷ xs) talker listener did =
    hears_after xs talker listener
    (if mentions x talker listener then word_of x talker listener else did)

-- The invariant of every flow table.
pub record IsFlowTable (table : List RoomFlows) : Type 0 where
  pub rooms : length table ≡ context_limit
  pub edits : StandsForSome table

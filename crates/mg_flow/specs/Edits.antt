-- The edits of all rooms, newest first, and what follows from them (RFC 3525, sections 7.1.7 and 7.1.18). The rule that
-- a newcomer and every member hear each other is this project's own.
use Rattle.std.specs.Prelude.{ℕ, Bool, false, not, ◌&&◌, ◌==◌, if◌then◌else◌, List, [], ◌∷◌}
use Rattle.mg_topology.specs.declared.triple.Triple.{Triple}
use Rattle.mg_topology.specs.Edits as topology
use Rattle.mg_flow.specs.declared.place.Place.{Place}
use Rattle.mg_flow.specs.Place.{is_same_place, are_together}

-- An edit of a flow table. A member enters, leaves, or changes its mode, which says whether the member talks and
-- whether it listens. Or a triple is applied in a room.
pub data FlowEdit : Type 0 where
  Enter : (place : Place) → (talks listens : Bool) → FlowEdit
  Leave : (place : Place) → FlowEdit
  SetMode : (place : Place) → (talks listens : Bool) → FlowEdit
  Apply : (room : ℕ) → (triple : Triple) → FlowEdit

-- The edits of a room, with one more edit if that edit belongs to the room.
abbrev pub with_edit_if : Bool → topology.TopologyEdit → List topology.TopologyEdit →
    List topology.TopologyEdit
with_edit_if is_here edit es = if is_here then edit ∷ es else es

-- The edits of one room, in the form of edits of its topology.
abbrev pub edits_in : ℕ → List FlowEdit → List topology.TopologyEdit
edits_in room [] = []
edits_in room (Enter p talks listens ∷ es) =
    with_edit_if (p.room == room) (topology.Enter p.seat) (edits_in room es)
edits_in room (Leave p ∷ es) =
    with_edit_if (p.room == room) (topology.Leave p.seat) (edits_in room es)
edits_in room (SetMode p talks listens ∷ es) = edits_in room es
edits_in room (Apply r triple ∷ es) =
    with_edit_if (r == room) (topology.Apply triple) (edits_in room es)

-- Whether the place is held.
abbrev pub is_held : List FlowEdit → Place → Bool
is_held es place = topology.is_held (edits_in place.room es) place.seat

-- The last setting of the member at the place, or `false` if the member has left or none has entered. The function
-- `side` selects whether the member talks or whether it listens.
abbrev pub last_setting : (Bool → Bool → Bool) → List FlowEdit → Place → Bool
last_setting side [] place = false
last_setting side (Enter p talks listens ∷ es) place =
    if is_same_place place p then side talks listens else last_setting side es place
last_setting side (Leave p ∷ es) place =
    if is_same_place place p then false else last_setting side es place
last_setting side (SetMode p talks listens ∷ es) place =
    if is_same_place place p then side talks listens else last_setting side es place
last_setting side (Apply room triple ∷ es) place = last_setting side es place

-- Whether the member at the place talks.
abbrev pub talks_in : List FlowEdit → Place → Bool
talks_in = last_setting (λ talks listens. talks)

-- Whether the member at the place listens.
abbrev pub listens_in : List FlowEdit → Place → Bool
listens_in = last_setting (λ talks listens. listens)

-- Whether the last word on two places in the same room lets the listener hear the talker.
abbrev pub may_hear : List FlowEdit → Place → Place → Bool
may_hear es talker listener =
    topology.may_hear (edits_in talker.room es) talker.seat listener.seat

-- Whether the listener hears the talker: they are different members of the same room, and the last word allows it.
abbrev pub hears_in : List FlowEdit → Place → Place → Bool
hears_in es talker listener =
    are_together (is_held es) talker listener && may_hear es talker listener

-- Whether the talker's speech flows to the listener: the talker talks, and the listener listens and hears the talker.
abbrev pub flows_in : List FlowEdit → Place → Place → Bool
flows_in es talker listener =
    talks_in es talker && (listens_in es listener && hears_in es talker listener)

-- Whether the talker is silenced for the listener: they are different members of the same room, the talker talks, and
-- the last word mutes it for the listener.
abbrev pub is_silenced_in : List FlowEdit → Place → Place → Bool
is_silenced_in es talker listener =
    talks_in es talker
    && (are_together (is_held es) talker listener && not (may_hear es talker listener))

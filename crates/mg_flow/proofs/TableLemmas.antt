-- After each edit, the table represents the list of edits with that edit added.
use Rattle.std.proofs.Common.{Result, Ok, Err, OnOk, OnErr, length-set, ◌≡◌, ◌≢◌, ℕ, ◌<◌, Bool, true, false, not, ◌&&◌, ◌==◌, cond, All, List, [], ◌∷◌, length, slice_set, get_or, get_or-set_same, get_or-set_other, nat_lt, inl, inr, refl, sym, ap, ◌∙◌, arith}
use Rattle.std.proofs.Math.ListN.{get_or-eq_default}
use Rattle.std.proofs.Math.Logic.{∥∥₁_map}
use Rattle.std.proofs.lemmas.List.{get_or_default}
use Rattle.std.proofs.lemmas.Bool.{cases_eq, cases_lt, ne_eqb, eq-eqb, and_left, and_right, both_ways}
use Rattle.std.proofs.lemmas.Bool.Decides.{nat_tests}
use Rattle.mg_topology.specs.declared.overlap.Overlap.{Overlap}
use Rattle.mg_topology.specs.declared.triple.Triple.{Triple}
use Rattle.mg_topology.specs.Mask.{seat_limit, has_seat}
use Rattle.mg_topology.specs.aids.Edits.{apply_all}
use Rattle.mg_topology.specs.Edits as topology
use Rattle.mg_topology.specs.aids.Topology as kept
use Rattle.mg_flow.specs.declared.place.Place.{Place}
use Rattle.mg_flow.specs.Place.{is_same_place, are_together}
use Rattle.mg_flow.specs.aids.Place.{sibling_place}
use Rattle.mg_flow.specs.Edits.{FlowEdit, Enter, Leave, SetMode, Apply, edits_in, is_held, talks_in}
use Rattle.mg_flow.specs.aids.Edits.{apply_in_room}
use Rattle.mg_flow.specs.Edits.{listens_in, may_hear, hears_in, flows_in, is_silenced_in}
use Rattle.mg_flow.specs.aids.RoomFlows.{flows_to, is_blocked_for, IsVacant, SetsSeat}
use Rattle.mg_flow.specs.aids.Table.{IsFlowTable}
use Rattle.mg_flow.specs.aids.Table.{RoomFlows, vacant, room_at, talks_at, listens_at, holds, hears, flows, is_silenced}
use Rattle.mg_flow.specs.aids.Table.{StandsFor}
use Rattle.mg_flow.proofs.SeatLemmas.{has_seat-empty}

-- ---- a table in which one room was written

room_at-own : (table : List RoomFlows) (i : ℕ) (r : RoomFlows) → i < length table → room_at (slice_set table i r) i ≡ r
room_at-own table i r within = rw get_or-set_same

room_at-other : (table : List RoomFlows) (i k : ℕ) (r : RoomFlows) → k ≢ i →
    room_at (slice_set table i r) k ≡ room_at table k
room_at-other table i k r apart = rw get_or-set_other

-- A room that the code reads is the room with this number in the definition.
room_at-read : (table : List RoomFlows) (i : ℕ) (room : RoomFlows) → i < length table → room ≡ get_or table i room →
    room ≡ room_at table i
room_at-read table i room within is = is ∙ get_or_default table i room vacant within

-- The code has read the room of the place, at index i of the table, and the place's seat, s.
pub record IsRead (table : List RoomFlows) (place : Place) (i s : ℕ) (room : RoomFlows) : Type 0 where
  pub number : i ≡ place.room
  pub seat : s ≡ place.seat
  pub within : i < length table
  pub is : room ≡ get_or table i room

found_at : {table : List RoomFlows} {place : Place} {i s : ℕ} {room : RoomFlows} → IsRead table place i s room →
    room ≡ room_at table i
found_at {table} {place} {i} {s} {room} read = room_at-read table i room read.within read.is

found : {table : List RoomFlows} {place : Place} {i s : ℕ} {room : RoomFlows} → IsRead table place i s room →
    room ≡ room_at table place.room
found {table} read = found_at read ∙ ap (room_at table) read.number

-- A place that is held is in a room of the table.
pub held_within : (table : List RoomFlows) (place : Place) (i : ℕ) → i ≡ place.room → holds table place ≡ true →
    i < length table
held_within table place i number held =
    elim (cases_lt i (length table)) [
      | inl below ↦ below
      | inr above ↦
          (let at_end : room_at table place.room ≡ vacant = ap (room_at table) (sym number) ∙
          get_or-eq_default table vacant above in
          let no_seat = and_right (nat_lt place.seat seat_limit) (has_seat 0 place.seat) (has_seat-empty place.seat) in
          let free : holds table place ≡ false = ap (λ (r : RoomFlows). kept.holds r.topology place.seat) at_end ∙
          no_seat in
          absurd (both_ways _ free held))
    ]

-- Setting one seat in a mask of one room changes the mask at that place only.
seat_set : (f : RoomFlows → ℕ) {table : List RoomFlows} {place : Place} {i s : ℕ} {old : RoomFlows}
    (new : RoomFlows) (b : Bool) →
    IsRead table place i s old
    → ((k : ℕ) → has_seat (f new) k ≡ cond (k == s) b (has_seat (f old) k)) → (p : Place)
    → has_seat (f (room_at (slice_set table i new) p.room)) p.seat ≡
    cond (is_same_place p place) b (has_seat (f (room_at table p.room)) p.seat)
seat_set f {table} {place} {i} {s} {old} new b read seats p =
    elim (cases_eq p.room i) [
      | inl e ↦
          rw (
            eq-eqb p.room place.room (e ∙ read.number),
            e,
            room_at-own table i new read.within,
            ← read.seat,
            ← found_at read,
          ) (seats p.seat)
      | inr ne ↦
          rw (ne_eqb p.room place.room (λ e. ne (e ∙ sym read.number)), room_at-other table i p.room new ne) refl
    ]

-- ---- a new table

vacant_room : IsVacant vacant
vacant_room = record {
  topology = record {
    seats = λ s. and_right (nat_lt s seat_limit) (has_seat 0 s) (has_seat-empty s);
    pairs = λ t l. and_left _ _ (and_right (nat_lt t seat_limit) (has_seat 0 t) (has_seat-empty t));
  };
  talks = has_seat-empty;
  listens = has_seat-empty;
}

vacant_at : (table : List RoomFlows) → All IsVacant table → (k : ℕ) → IsVacant (room_at table k)
vacant_at table each k =
    elim (cases_lt k (length table)) [
      | inl below ↦ each k vacant below
      | inr above ↦ rw (get_or-eq_default table vacant above) vacant_room
    ]

pub new_stands : (table : List RoomFlows) → All IsVacant table → StandsFor table []
new_stands table each = record {
  topologies = λ k. (vacant_at table each k).topology;
  talkers = λ p. (vacant_at table each p.room).talks p.seat;
  listeners = λ p. (vacant_at table each p.room).listens p.seat;
}

-- ---- the edits, one by one

-- After an edit of one room, the table represents the new edits if the room agrees with them. That is, its topology and
-- the members that talk and listen agree.
edited : (table : List RoomFlows) (i : ℕ) (r : RoomFlows) (es es' : List FlowEdit) → i < length table
    → (kept.StandsFor (room_at table i).topology (edits_in i es) → kept.StandsFor r.topology (edits_in i es'))
    → ((k : ℕ) → k ≢ i → edits_in k es' ≡ edits_in k es)
    → ((p : Place) → talks_at (slice_set table i r) p ≡ talks_in es' p)
    → ((p : Place) → listens_at (slice_set table i r) p ≡ listens_in es' p)
    → StandsFor table es → StandsFor (slice_set table i r) es'
edited table i r es es' within own quiet talkers listeners h = record {
  topologies = λ k. elim (cases_eq k i) [
    | inl e ↦ rw (e, room_at-own table i r within) (own (h.topologies i))
    | inr ne ↦ rw (room_at-other table i k r ne, quiet k ne) (h.topologies k)
  ];
  talkers = talkers;
  listeners = listeners;
}

-- The next lemmas are about an Enter, a Leave and a SetMode: the old room is read, and the new room is written.

pub enter_stands : {table : List RoomFlows} {place : Place} {i s : ℕ} {old new : RoomFlows} {t l : Bool} →
    IsRead table place i s old
    → ((edits : List topology.TopologyEdit) → kept.StandsFor old.topology edits →
    kept.StandsFor new.topology (topology.Enter s ∷ edits))
    → SetsSeat old new s true t l
    → (es : List FlowEdit) → StandsFor table es → StandsFor (slice_set table i new) (Enter place t l ∷ es)
enter_stands {table} {place} {i} {s} {old} {new} {t} {l} read edits set es h =
    edited table i new es (Enter place t l ∷ es) read.within
    (λ x. rw (eq-eqb place.room i (sym read.number), ← read.seat) (edits (edits_in i es) (rw (found_at read) x)))
    (λ k ne. rw (ne_eqb place.room k (λ e. ne (sym e ∙ sym read.number))) refl)
    (λ p. seat_set (λ (x : RoomFlows). x.talks) new t read set.talkers p ∙
    ap (cond (is_same_place p place) t) (h.talkers p))
    (λ p. seat_set (λ (x : RoomFlows). x.listens) new l read set.listeners p ∙
    ap (cond (is_same_place p place) l) (h.listeners p))
    h

pub leave_stands : {table : List RoomFlows} {place : Place} {i s : ℕ} {old new : RoomFlows} → IsRead table place i s old
    → ((edits : List topology.TopologyEdit) → kept.StandsFor old.topology edits →
    kept.StandsFor new.topology (topology.Leave s ∷ edits))
    → SetsSeat old new s false false false
    → (es : List FlowEdit) → StandsFor table es → StandsFor (slice_set table i new) (Leave place ∷ es)
leave_stands {table} {place} {i} {s} {old} {new} read edits set es h =
    edited table i new es (Leave place ∷ es) read.within
    (λ x. rw (eq-eqb place.room i (sym read.number), ← read.seat) (edits (edits_in i es) (rw (found_at read) x)))
    (λ k ne. rw (ne_eqb place.room k (λ e. ne (sym e ∙ sym read.number))) refl)
    (λ p. seat_set (λ (x : RoomFlows). x.talks) new false read set.talkers p ∙
    ap (cond (is_same_place p place) false) (h.talkers p))
    (λ p. seat_set (λ (x : RoomFlows). x.listens) new false read set.listeners p ∙
    ap (cond (is_same_place p place) false) (h.listeners p))
    h

pub mode_stands : {table : List RoomFlows} {place : Place} {i s : ℕ} {old new : RoomFlows} {t l : Bool} →
    IsRead table place i s old
    → new.topology ≡ old.topology → SetsSeat old new s true t l
    → (es : List FlowEdit) → StandsFor table es → StandsFor (slice_set table i new) (SetMode place t l ∷ es)
mode_stands {table} {place} {i} {s} {old} {new} {t} {l} read same set es h =
    edited table i new es (SetMode place t l ∷ es) read.within
    (λ x. rw (same, found_at read) x)
    (λ k ne. refl)
    (λ p. seat_set (λ (x : RoomFlows). x.talks) new t read set.talkers p ∙
    ap (cond (is_same_place p place) t) (h.talkers p))
    (λ p. seat_set (λ (x : RoomFlows). x.listens) new l read set.listeners p ∙
    ap (cond (is_same_place p place) l) (h.listeners p))
    h

-- ---- triples in order

pub own_triples : (room : ℕ) (triples : List Triple) (es : List FlowEdit)
    → edits_in room (apply_in_room room triples es) ≡ apply_all triples (edits_in room es)
own_triples room [] es = refl
own_triples room (triple ∷ triples) es =
    own_triples room triples (Apply room triple ∷ es)
    ∙ ap (λ x. apply_all triples (cond x (topology.Apply triple ∷ edits_in room es) (edits_in room es)))
    (eq-eqb room room refl)

other_triples : (room k : ℕ) (triples : List Triple) (es : List FlowEdit)
    → k ≢ room → edits_in k (apply_in_room room triples es) ≡ edits_in k es
other_triples room k [] es ne = refl
other_triples room k (triple ∷ triples) es ne =
    other_triples room k triples (Apply room triple ∷ es) ne
    ∙ ap (λ x. cond x (topology.Apply triple ∷ edits_in k es) (edits_in k es)) (ne_eqb room k (λ e. ne (sym e)))

talks_in-triples : (room : ℕ) (triples : List Triple) (es : List FlowEdit) (p : Place)
    → talks_in (apply_in_room room triples es) p ≡ talks_in es p
talks_in-triples room [] es p = refl
talks_in-triples room (triple ∷ triples) es p = talks_in-triples room triples (Apply room triple ∷ es) p

listens_in-triples : (room : ℕ) (triples : List Triple) (es : List FlowEdit) (p : Place)
    → listens_in (apply_in_room room triples es) p ≡ listens_in es p
listens_in-triples room [] es p = refl
listens_in-triples room (triple ∷ triples) es p = listens_in-triples room triples (Apply room triple ∷ es) p

seat_kept : (f : RoomFlows → ℕ) (table : List RoomFlows) (i : ℕ) (r : RoomFlows) (p : Place) → i < length table →
    f r ≡ f (room_at table i)
    → has_seat (f (room_at (slice_set table i r) p.room)) p.seat ≡ has_seat (f (room_at table p.room)) p.seat
seat_kept f table i r p within same =
    elim (cases_eq p.room i) [
      | inl e ↦ rw (e, room_at-own table i r within, same) refl
      | inr ne ↦ rw (room_at-other table i p.room r ne) refl
    ]

pub triples_stand : (table : List RoomFlows) (room i : ℕ) (triples : List Triple) (old new : RoomFlows) → i ≡ room →
    i < length table → old ≡ get_or table i old
    → ((edits : List topology.TopologyEdit) → kept.StandsFor old.topology edits →
    kept.StandsFor new.topology (apply_all triples edits))
    → new.talks ≡ old.talks → new.listens ≡ old.listens
    → (es : List FlowEdit) → StandsFor table es → StandsFor (slice_set table i new) (apply_in_room room triples es)
triples_stand table room i triples old new number within is edits talkers listeners es h =
    let here : old ≡ room_at table i = room_at-read table i old within is in
    rw (← number) (edited table i new es (apply_in_room i triples es) within
    (λ x. rw (own_triples i triples es) (edits (edits_in i es) (rw here x)))
    (λ k ne. other_triples i k triples es ne)
    (λ p. seat_kept (λ (x : RoomFlows). x.talks) table i new p within (rw (← here) talkers) ∙ h.talkers p ∙
    sym (talks_in-triples i triples es p))
    (λ p. seat_kept (λ (x : RoomFlows). x.listens) table i new p within (rw (← here) listeners) ∙ h.listeners p ∙
    sym (listens_in-triples i triples es p))
    h)

-- ---- there is a list of edits after each edit

pub IsFlowTable-edited : (table : List RoomFlows) (i : ℕ) (new : RoomFlows) (edit : List FlowEdit → List FlowEdit)
    → ((es : List FlowEdit) → StandsFor table es → StandsFor (slice_set table i new) (edit es)) → IsFlowTable table →
    IsFlowTable (slice_set table i new)
IsFlowTable-edited table i new edit stands h = record {
  rooms = length-set table i new ∙ h.rooms;
  edits = ∥∥₁_map h.edits (λ (x : (es : List FlowEdit) × StandsFor table es). (edit x.0, stands x.0 x.1));
}

-- Writing a room without changing it keeps what the table represents.
same_stands : (table : List RoomFlows) (i : ℕ) (old new : RoomFlows) → i < length table → old ≡ get_or table i old →
    new ≡ old
    → (es : List FlowEdit) → StandsFor table es → StandsFor (slice_set table i new) es
same_stands table i old new within is same es h =
    let here : new ≡ room_at table i = same ∙ room_at-read table i old within is in
    edited table i new es es within
    (λ x. rw here x)
    (λ k ne. refl)
    (λ p. seat_kept (λ (x : RoomFlows). x.talks) table i new p within (ap (λ (x : RoomFlows). x.talks) here) ∙
    h.talkers p)
    (λ p. seat_kept (λ (x : RoomFlows). x.listens) table i new p within (ap (λ (x : RoomFlows). x.listens) here) ∙
    h.listeners p)
    h

pub IsFlowTable-tried : (result : Result (Unit {0}) Overlap) (table : List RoomFlows) (i : ℕ) (old new : RoomFlows)
    (edit : List FlowEdit → List FlowEdit)
    → i < length table → old ≡ get_or table i old
    → OnOk result ((es : List FlowEdit) → StandsFor table es → StandsFor (slice_set table i new) (edit es)) →
    OnErr result (new ≡ old)
    → IsFlowTable table → IsFlowTable (slice_set table i new)
IsFlowTable-tried (Ok u) table i old new edit within is ok err h = IsFlowTable-edited table i new edit ok h
IsFlowTable-tried (Err e) table i old new edit within is ok err h =
    IsFlowTable-edited table i new (λ es. es) (same_stands table i old new within is err) h

-- ---- what a table says

pub hears-stands : (table : List RoomFlows) (es : List FlowEdit) (t l : Place) → StandsFor table es
    → hears table t l ≡ hears_in es t l
hears-stands table es t l h = grind (arith, nat_tests, (h.topologies t.room).pairs t.seat l.seat)

pub flows-stands : (table : List RoomFlows) (es : List FlowEdit) (t l : Place) → StandsFor table es
    → flows table t l ≡ flows_in es t l
flows-stands table es t l h = rw (h.talkers t, h.listeners l, hears-stands table es t l h) refl

not_both : (x w : Bool) → (x && not (x && w)) ≡ (x && not w)
not_both true w = refl
not_both false w = refl

pub is_silenced-stands : (table : List RoomFlows) (es : List FlowEdit) (t l : Place) → StandsFor table es
    → is_silenced table t l ≡ is_silenced_in es t l
is_silenced-stands table es t l h =
    rw (
      h.talkers t,
      hears-stands table es t l h,
      (h.topologies t.room).seats t.seat,
      (h.topologies l.room).seats l.seat,
    )
    (ap (λ x. talks_in es t && x) (not_both (are_together (is_held es) t l) (may_hear es t l)))

-- The masks of a room that is read agree with the table.

pub flows-read : {table : List RoomFlows} {place : Place} {i s : ℕ} {room : RoomFlows} → IsRead table place i s room
    → (seat : ℕ) → flows_to room.topology room.talks room.listens seat s ≡ flows table (sibling_place place seat) place
flows-read {table} {place} read seat = rw (found read, read.seat, eq-eqb place.room place.room refl) refl

pub is_silenced-read : {table : List RoomFlows} {place : Place} {i s : ℕ} {room : RoomFlows} →
    IsRead table place i s room
    → (seat : ℕ) → is_blocked_for room.topology room.talks seat s ≡ is_silenced table (sibling_place place seat) place
is_silenced-read {table} {place} read seat = rw (found read, read.seat, eq-eqb place.room place.room refl) (grind arith)

-- Each member has a place, and no two members have the same place.
use Rattle.mg_engine.proofs.Common.{arith, ◌≡◌, ◌≢◌, ℕ, eqb, ◌&&◌, Bool, false, List, Option, Some, None, refl, sym, ap, ◌∙◌, IsSome, eqb-true, same_Some, Context, Record, IsSound, and_parts, and-false, and_right, false_from_ne_true, Registry, record_at, context_at, Place, RoomFlows, hears, place_of, member_place, IsOnPlace, nat_tests, Member, ExistsAs, IsWithinLimits, is_same_place, room_at, talks_at, listens_at, flows}
use Rattle.mg_topology.specs.aids.Topology as topology

-- ## The place of a member

abbrev pub seated : ℕ → Context → Place
seated seat x = record { room = x.room; seat = seat }

abbrev pub place : Place → Option Place
place p = Some p

pub hears_apart : (table : List RoomFlows) (t l : Place) → eqb t.room l.room ≡ false → hears table t l ≡ false
hears_apart table t l e = ap (λ (b : Bool). b && topology.hears (room_at table t.room).topology t.seat l.seat) e

-- If a listener does not hear a talker, the talker's speech does not flow to the listener.
pub no_hearing : (table : List RoomFlows) (t l : Place) → hears table t l ≡ false → flows table t l ≡ false
no_hearing table t l e =
    rw e (and_right (talks_at table t) (listens_at table l && false) (and-false (listens_at table l)))

pub has_place : (w : Registry) (r : Record) → IsSome (context_at w r.context) → place_of w r ≡ None → ⊥
has_place w r there none = grind (arith, nat_tests)

-- The place has the room of the record's context and the record's seat.
pub record At (w : Registry) (r : Record) (p : Place) : Type 0 where
  pub context : Context
  pub found : context_at w r.context ≡ Some context
  pub room : p.room ≡ context.room
  pub seat : p.seat ≡ r.seat

pub at : (w : Registry) (r : Record) (p : Place) → place_of w r ≡ Some p → At w r p
at w r p h = grind (arith, nat_tests)

pub within : (w : Registry) (n : ℕ) (r : Record) (p : Place) → IsSound w → IsOnPlace w n r p → IsWithinLimits p
within w n r p sound h =
    let a = at w r p h.place in
    let x = (sound.context r.context a.context a.found).1 in
    let t = (sound.termination n r h.found).1 in
    record { room = omega (arith, x.room, a.room); seat = omega (arith, t.seat, a.seat) }

-- A member that exists is at its place.
pub on_its_place : (w : Registry) (n : ℕ) (m : Member) → ExistsAs w n m → IsOnPlace w n m.record (member_place m)
on_its_place w n m h = grind (arith, nat_tests, h.found)

-- The place of a member is within the limits.
pub member_within : (w : Registry) (n : ℕ) (m : Member) → IsSound w → ExistsAs w n m → IsWithinLimits (member_place m)
member_within w n m sound h = within w n m.record (member_place m) sound (on_its_place w n m h)

-- ## Two members

-- A termination has only one record.
pub one_record : (w : Registry) (m n : ℕ) (r q : Record) → record_at w m ≡ Some r → record_at w n ≡ Some q → m ≡ n →
    r ≡ q
one_record w m n r q found there same = same_Some r q (sym found ∙ ap (record_at w) same ∙ there)

-- Members of the same context are in the same room.
pub in_one_room : (w : Registry) (a b : Record) (p q : Place) → place_of w a ≡ Some p → place_of w b ≡ Some q →
    a.context ≡ b.context → p.room ≡ q.room
in_one_room w a b p q first second same = grind (arith, nat_tests)

-- Members in the same room are in the same context.
pub in_one_context : (w : Registry) (a b : Record) (p q : Place) → IsSound w → place_of w a ≡ Some p →
    place_of w b ≡ Some q → p.room ≡ q.room → a.context ≡ b.context
in_one_context w a b p q sound first second same =
    let x = at w a p first in
    let y = at w b q second in
    sound.one_room a.context b.context x.context y.context x.found y.found (sym x.room ∙ same ∙ y.room)

-- A place belongs to only one member.
pub one_member : (w : Registry) (m n : ℕ) (a b : Record) (p q : Place) → IsSound w → IsOnPlace w m a p →
    IsOnPlace w n b q → p.room ≡ q.room → p.seat ≡ q.seat → m ≡ n
one_member w m n a b p q sound first second room seat =
    sound.one_seat m n a b first.found second.found (in_one_context w a b p q sound first.place second.place room)
    (sym (at w a p first.place).seat ∙ seat ∙ (at w b q second.place).seat)

-- Different members are at different places.
pub apart_places : (w : Registry) (m n : ℕ) (a b : Record) (p q : Place) → IsSound w → IsOnPlace w m a p →
    IsOnPlace w n b q → m ≢ n → is_same_place p q ≡ false
apart_places w m n a b p q sound first second apart = false_from_ne_true (is_same_place p q) (λ e.
    let (room, seat) = and_parts (eqb p.room q.room) (eqb p.seat q.seat) e in
    apart (one_member w m n a b p q sound first second (eqb-true p.room q.room room) (eqb-true p.seat q.seat seat)))

-- A member is at only one place.
pub one_place : (w : Registry) (m n : ℕ) (a b : Record) (p q : Place) → IsOnPlace w m a p → IsOnPlace w n b q →
    m ≡ n → p ≡ q
one_place w m n a b p q first second same = grind (arith, nat_tests, second.place)

seated_by : (w : Registry) (n : ℕ) (r : Record) (o : Option Place) → place_of w r ≡ o → IsSound w →
    record_at w n ≡ Some r → (p : Place) × IsOnPlace w n r p
seated_by w n r (Some p) is sound found = (p, record { found = found; place = is })
seated_by w n r None is sound found = absurd (has_place w r (sound.there n r found) is)

-- Each termination has a place.
pub on_place : (w : Registry) (n : ℕ) (r : Record) → IsSound w → record_at w n ≡ Some r → (p : Place) ×
    IsOnPlace w n r p
on_place w n r sound found = seated_by w n r (place_of w r) refl sound found

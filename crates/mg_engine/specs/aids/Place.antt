-- The place of a member in the table of flows (not from a standard).
use Rattle.std.specs.Prelude.{◌≡◌, ℕ, Option, Some}
use Rattle.std.specs.Option.{option_map}
use Rattle.mg_rooms.specs.declared.record.Record.{Record}
use Rattle.mg_rooms.specs.Registry.{Registry, record_at, context_at}
use Rattle.mg_rooms.specs.declared.member.Member.{Member}
use Rattle.mg_engine.specs.declared.seated_member.SeatedMember.{SeatedMember}
use Rattle.mg_flow.specs.declared.place.Place.{Place}

-- The place of a termination: the room of its context, and its seat.
abbrev pub place_of : Registry → Record → Option Place
place_of w r =
    option_map (λ x. record { room = x.room; seat = r.seat }) (context_at w r.context)

-- The place of a member.
abbrev pub member_place : Member → Place
member_place m = record { room = m.room; seat = m.record.seat }

-- The termination n has this record and this place.
pub record IsOnPlace (w : Registry) (n : ℕ) (r : Record) (p : Place) : Type 0 where
  pub found : record_at w n ≡ Some r
  pub place : place_of w r ≡ Some p

-- The place of a member that was looked up before.
abbrev pub seated_place : SeatedMember → Place
seated_place m = record { room = m.room; seat = m.seat }

-- The termination exists, and has this place.
abbrev pub IsOnSeat : Registry → SeatedMember → Type 0
IsOnSeat w m = (r : Record) × IsOnPlace w m.number r (seated_place m)

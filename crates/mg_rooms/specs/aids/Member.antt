-- A termination with the room of its context (not from a standard).
use Rattle.std.specs.Prelude.{◌≡◌, ℕ, Some}
use Rattle.std.specs.Option.{option_map}
use Rattle.mg_rooms.specs.declared.member.Member.{Member}
use Rattle.mg_rooms.specs.Registry.{Registry, record_at, context_at}

-- The termination n exists with this record, and its context has this room.
pub record ExistsAs (w : Registry) (n : ℕ) (m : Member) : Type 0 where
  pub found : record_at w n ≡ Some m.record
  pub room : option_map (λ x. x.room) (context_at w m.record.context) ≡ Some m.room

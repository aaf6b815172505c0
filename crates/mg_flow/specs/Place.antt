-- Places of a gateway's members (not from a standard).
use Rattle.std.specs.Prelude.{Bool, not, ◌&&◌, ◌==◌}
use Rattle.mg_flow.specs.declared.place.Place.{Place}

-- Whether two places are the same.
abbrev pub is_same_place : Place → Place → Bool
is_same_place a b = (a.room == b.room) && (a.seat == b.seat)

-- Whether two places are held, according to the test, and are different seats of the same room.
abbrev pub are_together : (Place → Bool) → Place → Place → Bool
are_together is_held a b =
    is_held a && (is_held b && ((a.room == b.room) && not (a.seat == b.seat)))

-- The turn of a frame, which the code finds first, and the play list after the frame is placed by its turn.
use Rattle.std.specs.Prelude.{ℕ, ◌+◌, ◌-◌, ℤ, pos, neg_ℤ, nat_abs, int_lt, int_le, ◌||◌, ◌==◌, nat_le}
use Rattle.std.specs.Prelude.{if◌then◌else◌, List, length, is_some}
use Rattle.std.specs.Option.{option_map_or}
use Rattle.mg_playout.specs.Places.{FramePlaces, frame_at}
use Rattle.mg_playout.specs.Playout.{PlayList, depth_of, started, shifted, filled}
use Rattle.mg_playout.specs.Sequence.{distance_of}
use Rattle.mg_playout.specs.declared.phase.Phase.{Phase}
use Rattle.mg_playout.specs.declared.phase.Phase.TheVariants.{Idle}
use Rattle.mg_playout.specs.declared.placed.Placed.{Placed}
use Rattle.mg_playout.specs.declared.placed.Placed.TheVariants as answer
use Rattle.mg_playout.specs.declared.turn.Turn.{Turn}
use Rattle.mg_playout.specs.declared.turn.Turn.TheVariants.{Start, Late, Again, At, Push}

-- The turn of a frame whose place is not below 0.
abbrev pub turn_of_place : Phase → FramePlaces → ℕ → Turn
turn_of_place Idle places place = Start
turn_of_place phase places place =
    if nat_le (length places) place then Push (place - length places + 1)
    else if is_some (frame_at places place) then Again
    else At place

-- The turn of a frame of the current source, given its distance from the next sequence number.
abbrev pub turn_at : PlayList → ℤ → Turn
turn_at list distance =
    if int_lt distance (neg_ℤ (pos 100)) || int_le (pos 3000) distance then Start
    else if int_lt distance (pos 0) then Late
    else turn_of_place list.phase list.places (nat_abs distance)

-- The turn of a frame, by the first case that applies.
abbrev pub turn_of : PlayList → ℕ → ℕ → Turn
turn_of list ssrc sequence =
    option_map_or (λ source. if ssrc == source.ssrc
    then turn_at list (distance_of source.next sequence) else Start) list.source Start

-- The play list and the result after a frame is placed by its turn.
abbrev pub placed_at : Turn → PlayList → ℕ → ℕ → List ℤ → PlayList × Placed
placed_at Start list ssrc sequence frame = (started list ssrc sequence frame, answer.Started)
placed_at Late list ssrc sequence frame = (list, answer.Late)
placed_at Again list ssrc sequence frame = (list, answer.Again)
placed_at (At place) list ssrc sequence frame = (filled list place frame, answer.Placed)
placed_at (Push count) list ssrc sequence frame =
    (filled (shifted list count) (depth_of list - 1) frame, answer.Pushed)

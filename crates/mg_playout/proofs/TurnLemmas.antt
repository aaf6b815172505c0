-- The code finds the turn of a frame first and then places the frame. It has the same result as the definition
-- `placed`.
use Rattle.std.proofs.Common.{◌≡◌, ℕ, ℤ, List, Option, None, Some, arith, refl}
use Rattle.std.proofs.lemmas.Grind.{common_steps}
use Rattle.mg_playout.specs.Places.{FramePlaces}
use Rattle.mg_playout.specs.Playout.{PlayList, placed}
use Rattle.mg_playout.specs.aids.Turns.{turn_of, placed_at}
use Rattle.mg_playout.specs.declared.phase.Phase.{Phase}
use Rattle.mg_playout.specs.declared.phase.Phase.TheVariants.{Idle, Wait, Run}
use Rattle.mg_playout.specs.declared.source.Source.{Source}

-- A play list, given its fields.
abbrev pub list_in : Phase → Option Source → Option (List ℤ) → FramePlaces → PlayList
list_in phase source last places = record { phase = phase; source = source; last = last; places = places }

by_source : (phase : Phase) (source : Option Source) (last : Option (List ℤ)) (places : FramePlaces)
    (ssrc sequence : ℕ) (frame : List ℤ) → placed (list_in phase source last places) ssrc sequence frame ≡
    placed_at (turn_of (list_in phase source last places) ssrc sequence) (list_in phase source last places) ssrc sequence
    frame
by_source phase None last places ssrc sequence frame = refl
by_source Idle (Some source) last places ssrc sequence frame = grind (arith, common_steps)
by_source (Wait ticks) (Some source) last places ssrc sequence frame = grind (arith, common_steps)
by_source Run (Some source) last places ssrc sequence frame = grind (arith, common_steps)

pub placed_by_turn : (list : PlayList) (ssrc sequence : ℕ) (frame : List ℤ) → placed list ssrc sequence frame ≡
    placed_at (turn_of list ssrc sequence) list ssrc sequence frame
placed_by_turn list ssrc sequence frame =
    by_source list.phase list.source list.last list.places ssrc sequence frame

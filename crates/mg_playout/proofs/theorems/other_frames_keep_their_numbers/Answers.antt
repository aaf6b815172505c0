use Rattle.std.proofs.Common.{◌≡◌, ◌<◌, ◌≤◌, ◌≢◌, ◌+◌, ℕ, ℤ, List, length, Option, Some, None, arith, refl, subst, sym}
use Rattle.std.proofs.lemmas.Grind.{common_steps}
use Rattle.mg_playout.specs.Order.{IsValidList, frame_under}
use Rattle.mg_playout.specs.Places.{FramePlaces}
use Rattle.mg_playout.specs.Playout.{PlayList, depth_of}
use Rattle.mg_playout.specs.Sequence.{steps_between}
use Rattle.mg_playout.specs.aids.Turns.{turn_of, placed_at}
use Rattle.mg_playout.specs.declared.phase.Phase.{Phase}
use Rattle.mg_playout.specs.declared.phase.Phase.TheVariants.{Idle, Wait, Run}
use Rattle.mg_playout.specs.declared.placed.Placed.{Placed}
use Rattle.mg_playout.specs.declared.placed.Placed.TheVariants as answer
use Rattle.mg_playout.specs.declared.source.Source.{Source}
use Rattle.mg_playout.specs.declared.turn.Turn.{Turn}
use Rattle.mg_playout.specs.declared.turn.Turn.TheVariants.{Start, Late, Again, At, Push}
use Rattle.mg_playout.proofs.PlacesLemmas.{frame_at-fallen}
use Rattle.mg_playout.proofs.TurnLemmas.{list_in, placed_by_turn}
use Rattle.mg_playout.proofs.theorems.other_frames_keep_their_numbers.Goals as goal

-- If the list does not start and still has a place for the other frame, the other frame keeps its sequence number.
abbrev Stays : PlayList → Source → ℕ → PlayList × Placed → Type 0
Stays list after other x = x.1 ≢ answer.Started → x.0.source ≡ Some after →
    steps_between after.next other < depth_of list → frame_under x.0 other ≡ frame_under list other

-- The place of the turn belongs to this sequence number.
abbrev Suits : Source → FramePlaces → ℕ → Turn → Type 0
Suits source places sequence (At place) = place ≡ steps_between source.next sequence
Suits source places sequence (Push count) =
    (count + length places ≡ steps_between source.next sequence + 1) × (1 ≤ count)
Suits source places sequence turn = Unit {0}

suits : (phase : Phase) (source : Source) (last : Option (List ℤ)) (places : FramePlaces) (ssrc sequence : ℕ) →
    source.next < 65536 → sequence < 65536 →
    Suits source places sequence (turn_of (list_in phase (Some source) last places) ssrc sequence)
suits Idle source last places ssrc sequence = grind (arith, common_steps)
suits (Wait ticks) source last places ssrc sequence = grind (arith, common_steps)
suits Run source last places ssrc sequence = grind (arith, common_steps)

stays : (phase : Phase) (source : Source) (last : Option (List ℤ)) (places : FramePlaces) (ssrc sequence : ℕ)
    (frame : List ℤ) (after : Source) (other : ℕ) (turn : Turn) → source.next < 65536 → sequence < 65536 →
    other < 65536 → other ≢ sequence → 2 ≤ length places → length places ≤ 16 → Suits source places sequence turn →
    Stays (list_in phase (Some source) last places) after other
    (placed_at turn (list_in phase (Some source) last places) ssrc sequence frame)
stays phase source last places ssrc sequence frame after other Start = grind (arith, common_steps)
stays phase source last places ssrc sequence frame after other Late = grind (arith, common_steps)
stays phase source last places ssrc sequence frame after other Again = grind (arith, common_steps)
stays phase source last places ssrc sequence frame after other (At place) = grind (arith, common_steps)
stays phase source last places ssrc sequence frame after other (Push count) =
    grind (arith, common_steps, frame_at-fallen)

by_source : (phase : Phase) (source : Option Source) (last : Option (List ℤ)) (places : FramePlaces)
    (ssrc sequence : ℕ) (frame : List ℤ) (after : Source) (other : ℕ) →
    IsValidList (list_in phase source last places) → sequence < 65536 → other < 65536 → other ≢ sequence →
    Stays (list_in phase source last places) after other
    (placed_at (turn_of (list_in phase source last places) ssrc sequence) (list_in phase source last places) ssrc sequence
    frame)
by_source phase None last places ssrc sequence frame after other valid low below apart = grind (arith, common_steps)
by_source phase (Some source) last places ssrc sequence frame after other valid low below apart =
    let next = valid.source source refl in
    stays phase source last places ssrc sequence frame after other
    (turn_of (list_in phase (Some source) last places) ssrc sequence) next low below apart valid.places.at_least
    valid.places.at_most (suits phase source last places ssrc sequence next low)

by_turn : (list : PlayList) (ssrc sequence : ℕ) (frame : List ℤ) (after : Source) (other : ℕ) → IsValidList list →
    sequence < 65536 → other < 65536 → other ≢ sequence →
    Stays list after other (placed_at (turn_of list ssrc sequence) list ssrc sequence frame)
by_turn list ssrc sequence frame after other =
    by_source list.phase list.source list.last list.places ssrc sequence frame after other

-- If the list starts, the other frame is dropped.
abbrev Goes : ℕ → PlayList × Placed → Type 0
Goes other x = x.1 ≡ answer.Started → frame_under x.0 other ≡ None

gone_by_turn : (list : PlayList) (ssrc sequence : ℕ) (frame : List ℤ) (other : ℕ) → sequence < 65536 → other < 65536 →
    other ≢ sequence → Goes other (placed_at (turn_of list ssrc sequence) list ssrc sequence frame)
gone_by_turn list ssrc sequence frame other = grind (arith, common_steps)

pub returns-clause-stay : goal.returns-clause-stay
returns-clause-stay c = λ list ssrc sequence frame after other valid low below apart.
    subst (Stays list after other) (sym (placed_by_turn list ssrc sequence frame))
    (by_turn list ssrc sequence frame after other valid low below apart)

pub returns-clause-started : goal.returns-clause-started
returns-clause-started c = λ list ssrc sequence frame other low below apart.
    subst (Goes other) (sym (placed_by_turn list ssrc sequence frame))
    (gone_by_turn list ssrc sequence frame other low below apart)

-- The frames that a play list plays in its ticks while no frame arrives.
use Rattle.std.proofs.Common.{◌≡◌, ℕ, zero, suc, ◌+◌, ◌-◌, ◌<◌, ◌≤◌, ℤ, Bool, true, false, List, Option, None, Some, drop, arith, refl, ap, sym, subst, ◌∙◌}
use Rattle.std.specs.Prelude.{if◌then◌else◌, ◌==◌}
use Rattle.std.specs.Option.{option_map}
use Rattle.std.proofs.lemmas.Bool.Decides.{nat_tests}
use Rattle.mg_playout.specs.Order.{given_after, given_at, frame_before}
use Rattle.mg_playout.specs.Places.{FramePlaces, frame_at, fallen, has_no_frame}
use Rattle.mg_playout.specs.Played.{given, frame_from_packet}
use Rattle.mg_playout.specs.Playout.{PlayList, advanced}
use Rattle.mg_playout.specs.declared.phase.Phase.{Phase}
use Rattle.mg_playout.specs.declared.phase.Phase.TheVariants.{Idle, Wait, Run}
use Rattle.mg_playout.specs.declared.played.Played.{Played}
use Rattle.mg_playout.specs.declared.played.Played.TheVariants.{Silence}
use Rattle.mg_playout.specs.declared.source.Source.{Source}
use Rattle.mg_playout.proofs.PlacesLemmas.{frame_at-fallen, frame_at-none, has_no_frame-drop, has_no_frame-fallen}

-- A play list, given its fields.
abbrev list_in : Phase → Option Source → FramePlaces → Option (List ℤ) → PlayList
list_in phase source places last = record { phase = phase; source = source; last = last; places = places }

-- What is played for a place. The flag says whether there is no frame from this place on.
abbrev turn_step : FramePlaces → Option (List ℤ) → ℕ → Bool → Played
turn_step places last place none = if none then Silence else
    given (frame_at places place) (frame_before places last place)

given_at-none : (places : FramePlaces) (last : Option (List ℤ)) (place : ℕ) → has_no_frame (drop place places) ≡ true →
    given_at places last place ≡ Silence
given_at-none places last place e = ap (turn_step places last place) e

-- After moving down by one, what is played for a place is what was due for the next place before.
given_at-fallen : (places : FramePlaces) (last : Option (List ℤ)) (place : ℕ) →
    given_at (fallen places 1) (frame_at places 0) place ≡ given_at places last (suc place)
given_at-fallen places last place =
    ap (turn_step (fallen places 1) (frame_at places 0) place) (has_no_frame-fallen places place)
    ∙ ap (λ turn. if has_no_frame (drop (suc place) places) then Silence else turn) (turn place)
  where
    next : (place : ℕ) → frame_at (fallen places 1) place ≡ frame_at places (suc place)
    next place = frame_at-fallen places 1 place ∙ ap (frame_at places) (omega arith)

    turn : (place : ℕ) → given (frame_at (fallen places 1) place)
        (frame_before (fallen places 1) (frame_at places 0) place) ≡
        given (frame_at places (suc place)) (frame_at places place)
    turn zero = ap (λ frame. given frame (frame_at places 0)) (next 0)
    turn (suc place) =
        ap (λ frame. given frame (frame_at (fallen places 1) place)) (next (suc place))
        ∙ ap (given (frame_at places (suc (suc place)))) (next place)

-- A received frame is played for a place if and only if the place has that frame.
pub frame_from_packet-given_at : (places : FramePlaces) (last : Option (List ℤ)) (place : ℕ) →
    frame_from_packet (given_at places last place) ≡ frame_at places place
frame_from_packet-given_at places last place = by (has_no_frame (drop place places)) refl
  where
    came : (frame before : Option (List ℤ)) → frame_from_packet (given frame before) ≡ frame
    came (Some frame) before = refl
    came None (Some before) = refl
    came None None = refl

    by : (b : Bool) → has_no_frame (drop place places) ≡ b →
        frame_from_packet (turn_step places last place (has_no_frame (drop place places))) ≡ frame_at places place
    by true e = ap (λ b. frame_from_packet (turn_step places last place b)) e ∙ sym (frame_at-none places place e)
    by false e = ap (λ b. frame_from_packet (turn_step places last place b)) e ∙
        came (frame_at places place) (frame_before places last place)

-- An idle play list plays silence.
given_after-idle : (ticks : ℕ) (source : Option Source) (places : FramePlaces) (last : Option (List ℤ)) →
    given_after ticks (list_in Idle source places last) ≡ Silence
given_after-idle zero source places last = refl
given_after-idle (suc ticks) source places last = given_after-idle ticks source places last

-- A tick of a running play list. The flag says whether every place is empty.
abbrev run_step : Option Source → FramePlaces → Option (List ℤ) → Bool → PlayList × Played
run_step source places last empty =
    if empty then (list_in Idle source places None, Silence)
    else (
      list_in Run (option_map (advanced 1) source) (fallen places 1) (frame_at places 0),
      given (frame_at places 0) last,
    )

-- A running play list plays, after `ticks` ticks, what is due for place `ticks`.
pub given_after-run : (ticks : ℕ) (source : Option Source) (places : FramePlaces) (last : Option (List ℤ)) →
    given_after ticks (list_in Run source places last) ≡ given_at places last ticks
given_after-run zero source places last = by (has_no_frame places) refl
  where
    by : (b : Bool) → has_no_frame places ≡ b →
        (run_step source places last (has_no_frame places)).1 ≡ given_at places last 0
    by true e = ap (λ b. (run_step source places last b).1) e ∙ sym (given_at-none places last 0 e)
    by false e = ap (λ b. (run_step source places last b).1) e ∙ sym (ap (turn_step places last 0) e)
given_after-run (suc ticks) source places last =
    by (has_no_frame places) refl (given_after-run ticks (option_map (advanced 1) source) (fallen places 1)
    (frame_at places 0))
  where
    by : (b : Bool) → has_no_frame places ≡ b
        → given_after ticks (list_in Run (option_map (advanced 1) source) (fallen places 1) (frame_at places 0)) ≡
        given_at (fallen places 1) (frame_at places 0) ticks
        → given_after ticks (run_step source places last (has_no_frame places)).0 ≡ given_at places last (suc ticks)
    by true e rest =
        ap (λ b. given_after ticks (run_step source places last b).0) e
        ∙ given_after-idle ticks source places None
        ∙ sym (given_at-none places last (suc ticks) (has_no_frame-drop places (suc ticks) e))
    by false e rest = ap (λ b. given_after ticks (run_step source places last b).0) e ∙ rest ∙
        given_at-fallen places last ticks

-- A tick of a waiting play list. The flag says whether this is the last tick of the wait.
abbrev wait_step : ℕ → Option Source → FramePlaces → Option (List ℤ) → Bool → PlayList
wait_step wait source places last over = list_in (if over then Run else Wait (wait - 1)) source places last

-- A waiting play list plays silence until its wait is over.
pub given_after-wait : (ticks wait : ℕ) (source : Option Source) (places : FramePlaces) (last : Option (List ℤ)) →
    ticks < wait → given_after ticks (list_in (Wait wait) source places last) ≡ Silence
given_after-wait zero wait source places last below = refl
given_after-wait (suc ticks) wait source places last below =
    by (wait == 1) refl (given_after-wait ticks (wait - 1) source places last (omega arith))
  where
    by : (b : Bool) → (wait == 1) ≡ b
        → given_after ticks (list_in (Wait (wait - 1)) source places last) ≡ Silence
        → given_after ticks (wait_step wait source places last (wait == 1)) ≡ Silence
    by true e rest = absurd (grind (arith, nat_tests))
    by false e rest = ap (λ b. given_after ticks (wait_step wait source places last b)) e ∙ rest

-- After its wait, a play list plays what is due for each place in order.
pub given_after-waited : (total wait ticks : ℕ) (source : Option Source) (places : FramePlaces)
    (last : Option (List ℤ)) → 1 ≤ wait → total ≡ wait + ticks →
    given_after total (list_in (Wait wait) source places last) ≡ given_at places last ticks
given_after-waited zero wait ticks source places last positive is = absurd (omega arith)
given_after-waited (suc total) wait ticks source places last positive is =
    by (wait == 1) refl (λ more. given_after-waited total (wait - 1) ticks source places last (omega arith)
    (omega arith))
  where
    by : (b : Bool) → (wait == 1) ≡ b
        → (1 < wait → given_after total (list_in (Wait (wait - 1)) source places last) ≡ given_at places last ticks)
        → given_after total (wait_step wait source places last (wait == 1)) ≡ given_at places last ticks
    by true e rest =
        let one : wait ≡ 1 = grind (arith, nat_tests) in
        ap (λ b. given_after total (wait_step wait source places last b)) e
        ∙ given_after-run total source places last
        ∙ ap (given_at places last) (omega arith)
    by false e rest =
        let more : 1 < wait = grind (arith, nat_tests) in
        ap (λ b. given_after total (wait_step wait source places last b)) e ∙ rest more

-- These lemmas give the frames that a play list plays, from an equation for its phase.
pub given_after-running : (list : PlayList) (ticks : ℕ) → list.phase ≡ Run →
    given_after ticks list ≡ given_at list.places list.last ticks
given_after-running list ticks is =
    subst (λ phase. given_after ticks (list_in phase list.source list.places list.last) ≡
    given_at list.places list.last ticks)
    (sym is)
    (given_after-run ticks list.source list.places list.last)

pub given_after-waiting : (list : PlayList) (wait ticks : ℕ) → list.phase ≡ Wait wait → ticks < wait →
    given_after ticks list ≡ Silence
given_after-waiting list wait ticks is early =
    subst (λ phase. given_after ticks (list_in phase list.source list.places list.last) ≡ Silence)
    (sym is)
    (given_after-wait ticks wait list.source list.places list.last early)

pub given_after-started : (list : PlayList) (wait ticks : ℕ) → list.phase ≡ Wait wait → 1 ≤ wait →
    given_after (wait + ticks) list ≡ given_at list.places list.last ticks
given_after-started list wait ticks is positive =
    subst (λ phase. given_after (wait + ticks) (list_in phase list.source list.places list.last) ≡
    given_at list.places list.last ticks)
    (sym is)
    (given_after-waited (wait + ticks) wait ticks list.source list.places list.last positive refl)

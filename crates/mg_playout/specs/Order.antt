-- Properties of play lists by sequence number, for the theorems (not from a standard). The
-- definitions of the calls do not use them.
use Rattle.std.specs.Prelude.{◌≡◌, ℕ, zero, suc, ◌<◌, ℤ, List, drop, Option, Some, IfSome}
use Rattle.std.specs.Prelude.{if◌then◌else◌}
use Rattle.std.specs.Option.{option_and_then}
use Rattle.mg_g711.specs.Frame.{IsFrame}
use Rattle.mg_playout.specs.Places.{FramePlaces, frame_at, has_no_frame, ArePlaces}
use Rattle.mg_playout.specs.Played.{given}
use Rattle.mg_playout.specs.Playout.{PlayList, HasTicksLeft, ticked}
use Rattle.mg_playout.specs.Sequence.{steps_between}
use Rattle.mg_playout.specs.declared.played.Played.{Played}
use Rattle.mg_playout.specs.declared.played.Played.TheVariants.{Silence}
use Rattle.mg_playout.specs.declared.source.Source.{Source}

-- The invariant of every play list.
pub record IsValidList (list : PlayList) : Type 0 where
  pub phase : HasTicksLeft list.phase
  pub last : IfSome list.last IsFrame
  pub places : ArePlaces list.places
  pub source : (source : Source) → list.source ≡ Some source → source.next < 65536

-- The frame that waits with this sequence number, or `None`.
abbrev pub frame_under : PlayList → ℕ → Option (List ℤ)
frame_under list sequence =
    option_and_then (λ source. frame_at list.places (steps_between source.next sequence)) list.source

-- What the next tick plays after this many ticks without a new frame.
abbrev pub given_after : ℕ → PlayList → Played
given_after zero list = (ticked list).1
given_after (suc ticks) list = given_after ticks (ticked list).0

-- The frame that is due just before the frame at the place, or `None` if it is missing.
abbrev pub frame_before : FramePlaces → Option (List ℤ) → ℕ → Option (List ℤ)
frame_before places last zero = last
frame_before places last (suc place) = frame_at places place

-- What is played for the place. If neither this place nor a later place has a frame, the list plays silence.
abbrev pub given_at : FramePlaces → Option (List ℤ) → ℕ → Played
given_at places last place =
    if has_no_frame (drop place places) then Silence
    else given (frame_at places place) (frame_before places last place)

-- A play list, which is the jitter buffer, and the effect of each call (not from a standard).
use Rattle.std.specs.Prelude.{ℕ, ◌+◌, ◌-◌, ◌/◌, ◌%◌, ℤ, pos, neg_ℤ, nat_abs, int_lt, int_le, ◌||◌}
use Rattle.std.specs.Prelude.{◌==◌, ◌≤◌, nat_le, if◌then◌else◌, Bool, true, false, not, List, length}
use Rattle.std.specs.Prelude.{slice_set, Option, Some, None, is_some}
use Rattle.std.specs.Option.{option_map, option_map_or}
use Rattle.mg_words.specs.Limits.{first_depth}
use Rattle.mg_playout.specs.Places.{FramePlaces, empty_places, started_with, frame_at, has_no_frame}
use Rattle.mg_playout.specs.Places.{fallen, resized}
use Rattle.mg_playout.specs.Played.{given}
use Rattle.mg_playout.specs.Sequence.{distance_of}
use Rattle.mg_playout.specs.declared.phase.Phase.{Phase}
use Rattle.mg_playout.specs.declared.phase.Phase.TheVariants.{Idle, Wait, Run}
use Rattle.mg_playout.specs.declared.placed.Placed.{Placed}
use Rattle.mg_playout.specs.declared.placed.Placed.TheVariants as answer
use Rattle.mg_playout.specs.declared.played.Played.{Played}
use Rattle.mg_playout.specs.declared.played.Played.TheVariants.{Silence}
use Rattle.mg_playout.specs.declared.source.Source.{Source}

-- A play list: its phase, its source, the frame that was due in the last tick, and the places of the waiting frames.
-- Place i belongs to the source's next sequence number plus i, modulo 65536.
pub record PlayList : Type 0 where
  pub phase : Phase
  pub source : Option Source
  pub last : Option (List ℤ)
  pub places : FramePlaces

-- A play list that waits has at least one more tick to wait.
abbrev pub HasTicksLeft : Phase → Type 0
HasTicksLeft (Wait ticks) = 1 ≤ ticks
HasTicksLeft phase = Unit {0}

-- The depth: the number of places.
abbrev pub depth_of : PlayList → ℕ
depth_of list = length list.places

-- A new play list, which is idle.
abbrev pub first_list : PlayList
first_list = record { phase = Idle; source = None; last = None; places = empty_places first_depth }

-- The play list after a start. The frame's sequence number becomes the next sequence number, and the wait in ticks is
-- half the depth, rounded down.
abbrev pub started : PlayList → ℕ → ℕ → List ℤ → PlayList
started list ssrc sequence frame = record {
  phase = Wait (depth_of list / 2);
  source = Some (record { ssrc = ssrc; next = sequence });
  last = None;
  places = started_with frame (depth_of list);
}

-- The source, with its next sequence number increased by `count`.
abbrev pub advanced : ℕ → Source → Source
advanced count source = record { ssrc = source.ssrc; next = (source.next + count) % 65536 }

-- The play list after a shift by `count`. The next sequence number increases, and every frame moves down.
abbrev pub shifted : PlayList → ℕ → PlayList
shifted list count = record list {
  source = option_map (advanced count) list.source;
  places = fallen list.places count;
}

-- The play list with the frame stored at the place.
abbrev pub filled : PlayList → ℕ → List ℤ → PlayList
filled list place frame = record list { places = slice_set list.places place (Some frame) }

abbrev pub is_idle : Phase → Bool
is_idle Idle = true
is_idle _ = false

-- Whether the list has no source yet, or a source other than this one.
abbrev pub is_new_source : PlayList → ℕ → Bool
is_new_source list ssrc = option_map_or (λ source. not (ssrc == source.ssrc)) list.source true

-- How far a frame is ahead of the next sequence number, or 0 if the list has no source.
abbrev pub distance_in : PlayList → ℕ → ℤ
distance_in list sequence =
    option_map_or (λ source. distance_of source.next sequence) list.source (pos 0)

-- The play list after a frame is placed, and the result of placing. The first case that applies counts.
abbrev pub placed : PlayList → ℕ → ℕ → List ℤ → PlayList × Placed
placed list ssrc sequence frame =
    let start : PlayList × Placed = (started list ssrc sequence frame, answer.Started) in
    let distance : ℤ = distance_in list sequence in
    let place : ℕ = nat_abs distance in
    let depth : ℕ = depth_of list in
    if is_new_source list ssrc then start
    else if int_lt distance (neg_ℤ (pos 100)) || int_le (pos 3000) distance then start
    else if int_lt distance (pos 0) then (list, answer.Late)
    else if is_idle list.phase then start
    else if nat_le depth place
    then (filled (shifted list (place - depth + 1)) (depth - 1) frame, answer.Pushed)
    else if is_some (frame_at list.places place) then (list, answer.Again)
    else (filled list place frame, answer.Placed)

-- The play list after a tick, and what the tick plays. A list that is idle or waits plays silence. When a list runs,
-- the content of place 0, a frame or nothing, becomes the last frame. If a list that runs is empty, it becomes idle,
-- plays silence and forgets the last frame.
abbrev pub ticked_in : Phase → PlayList → PlayList × Played
ticked_in Idle list = (list, Silence)
ticked_in (Wait ticks) list =
    (record list { phase = if ticks == 1 then Run else Wait (ticks - 1) }, Silence)
ticked_in Run list =
    if has_no_frame list.places then (record list { phase = Idle; last = None }, Silence)
    else (
      record (shifted list 1) { last = frame_at list.places 0 },
      given (frame_at list.places 0) list.last,
    )

abbrev pub ticked : PlayList → PlayList × Played
ticked list = ticked_in list.phase list

-- The play list after a change of depth. The phase is unchanged, so a wait that has started keeps its length.
abbrev pub with_depth : PlayList → ℕ → PlayList
with_depth list depth = record list { places = resized list.places depth }

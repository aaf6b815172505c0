-- The state of sums: what is stored for a row or a room, and the work counter.
use Rattle.std.specs.Prelude.{◌≡◌, ℕ, ◌+◌, ◌%◌, ◌^◌, ◌<◌, ℤ, Option}
use Rattle.std.specs.Prelude.{Some, None, List, [], length, replicate}
use Rattle.std.specs.Prelude.{slice_index_or, IfSome, All}
use Rattle.mg_words.specs.Limits.{context_limit, termination_limit}
use Rattle.mg_g711.specs.Frame.{IsFrame}
use Rattle.mg_sums.specs.Samples.{sum_of, silence}
use Rattle.mg_sums.specs.Sums.{SumsState, sample_in, joined_rows}

-- The state at the start: a silent row for each possible termination, not joined to any room.
unfoldable pub first_sums : SumsState
first_sums =
    record {
      frames = replicate termination_limit silence;
      rooms = replicate termination_limit None;
      work = 0;
    }

-- The frame of a row.
abbrev pub frame_of_row : SumsState → ℕ → List ℤ
frame_of_row kept row = slice_index_or kept.frames row []

-- The room that a row is joined to.
abbrev pub room_of : SumsState → ℕ → Option ℕ
room_of kept row = slice_index_or kept.rooms row None

-- Sample i of a room's total: the sum of the rows that are joined to the room, without saturation.
abbrev pub total_of : SumsState → ℕ → ℕ → ℤ
total_of kept room i = sum_of (sample_in kept.frames i) (joined_rows kept.rooms room)

-- The work counter after this many more additions and subtractions of rows.
abbrev pub work_after : ℕ → ℕ → ℕ
work_after more work = (work + more) % 2 ^ 32

-- The number of additions and subtractions of a row when its frame is set: two if the row is joined to a room, and
-- otherwise none.
abbrev pub frame_calls : Option ℕ → ℕ
frame_calls None = 0
frame_calls (Some room) = 2

-- There is a row for each possible termination. Each row has a frame and is joined to at most one room.
pub record AreValidSums (kept : SumsState) : Type 0 where
  pub frames : length kept.frames ≡ termination_limit
  pub rooms : length kept.rooms ≡ termination_limit
  pub whole : All IsFrame kept.frames
  pub below : All (λ room. IfSome room (λ number. number < context_limit)) kept.rooms

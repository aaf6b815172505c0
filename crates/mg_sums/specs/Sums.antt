-- The frames of rows, the rooms that rows are joined to, and the sums of a room's frames. A total is never saturated,
-- and a mix is saturated once. This is the project's own rule.
use Rattle.std.specs.Prelude.{◌≢◌, ℕ, ℤ, Bool, false, not, ◌==◌, Option}
use Rattle.std.specs.Prelude.{Some, None, List, [], ◌∷◌, length, map, filter}
use Rattle.std.specs.Prelude.{slice_index_or, AllPairs, Contains, IsTrue, All}
use Rattle.std.specs.List.{list_any, range_with_len}
use Rattle.mg_sums.specs.Samples.{sample, sum_of, nearest_sample}

-- The state: the frame of each row, the room that each row is joined to, or `None`, and a work counter. The counter
-- says how often a row was added or subtracted, modulo 2^32. A mix without a base counts as one subtraction.
pub record SumsState : Type 0 where
  pub frames : List (List ℤ)
  pub rooms : List (Option ℕ)
  pub work : ℕ

-- Sample i of a row's frame.
abbrev pub sample_in : List (List ℤ) → ℕ → ℕ → ℤ
sample_in frames i row = sample (slice_index_or frames row []) i

abbrev pub is_room : Option ℕ → ℕ → Bool
is_room None room = false
is_room (Some joined) room = joined == room

-- Whether a row is joined to a room.
abbrev pub is_joined : List (Option ℕ) → ℕ → ℕ → Bool
is_joined rooms room row = is_room (slice_index_or rooms row None) room

-- The rows that are joined to a room.
unfoldable pub joined_rows : List (Option ℕ) → ℕ → List ℕ
joined_rows rooms room = filter (is_joined rooms room) (range_with_len 0 (length rooms))

-- Whether the row is in the list.
abbrev pub is_among : List ℕ → ℕ → Bool
is_among rows row = list_any (λ r. row == r) rows

-- The rows that are joined to a room, without the rows that are left out.
unfoldable pub heard_rows : List (Option ℕ) → ℕ → List ℕ → List ℕ
heard_rows rooms room out = filter (λ row. not (is_among out row)) (joined_rows rooms room)

-- Sample i of the sum of the rows that are heard, without saturation.
abbrev pub heard_of : SumsState → ℕ → List ℕ → ℕ → ℤ
heard_of kept room out i = sum_of (sample_in kept.frames i) (heard_rows kept.rooms room out)

-- A mix: the sum of the rows that are heard, with each sample saturated once.
unfoldable pub mix_of : SumsState → ℕ → List ℕ → List ℤ
mix_of kept room out = map (λ i. nearest_sample (heard_of kept room out i)) (range_with_len 0 160)

-- The rows that a mix leaves out: the optional base, and the rows of `minus`.
abbrev pub left_out_by : Option ℕ → List ℕ → List ℕ
left_out_by None minus = minus
left_out_by (Some base) minus = base ∷ minus

-- The rows are joined to the room, and no two of them are the same.
pub record AreOfRoom (rooms : List (Option ℕ)) (room : ℕ) (rows : List ℕ) : Type 0 where
  pub joined : All (λ row. IsTrue (is_joined rooms room row)) rows
  pub different : AllPairs (λ a b. a ≢ b) rows

-- The rows are all the rows that are joined to the room.
pub record AreAllOfRoom (rooms : List (Option ℕ)) (room : ℕ) (rows : List ℕ) : Type 0 where
  pub are : AreOfRoom rooms room rows
  pub all : (row : ℕ) → IsTrue (is_joined rooms room row) → Contains rows row

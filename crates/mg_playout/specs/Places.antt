-- The places of a play list, each of which may hold a frame (not from a standard).
use Rattle.std.specs.Prelude.{ℕ, ◌-◌, ◌≤◌, min, ℤ, Bool, List, ◌∷◌, ◌++◌, length, take, drop}
use Rattle.std.specs.Prelude.{replicate, slice_index_or, Option, Some, None, is_none, All, IfSome}
use Rattle.std.specs.List.{list_all}
use Rattle.mg_words.specs.Limits.{min_depth, max_depth}
use Rattle.mg_g711.specs.Frame.{IsFrame}

-- The places from 0 up to the depth. A frame is the list of its samples.
abbrev pub FramePlaces : Type 0
FramePlaces = List (Option (List ℤ))

-- The frame at the place, or `None` if the place is empty or does not exist.
abbrev pub frame_at : FramePlaces → ℕ → Option (List ℤ)
frame_at places place = slice_index_or places place None

-- Whether every place is empty.
abbrev pub has_no_frame : FramePlaces → Bool
has_no_frame places = list_all is_none places

-- A list of `depth` empty places.
abbrev pub empty_places : ℕ → FramePlaces
empty_places depth = replicate depth None

-- A list of `depth` places, with a frame only in the first place.
abbrev pub started_with : List ℤ → ℕ → FramePlaces
started_with frame depth = Some frame ∷ empty_places (depth - 1)

-- The places after every frame moves down by `count` places. Frames that would fall below place 0 are dropped.
abbrev pub fallen : FramePlaces → ℕ → FramePlaces
fallen places count = drop count places ++ empty_places (min count (length places))

-- The places after a change of depth. Frames at places that no longer exist are dropped.
abbrev pub resized : FramePlaces → ℕ → FramePlaces
resized places depth = take depth places ++ empty_places (depth - length places)

-- The invariant of the places of every play list: there are 2 to 16 places, and each frame is valid.
pub record ArePlaces (places : FramePlaces) : Type 0 where
  pub at_least : min_depth ≤ length places
  pub at_most : length places ≤ max_depth
  pub frames : All (λ place. IfSome place IsFrame) places

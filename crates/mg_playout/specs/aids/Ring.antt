-- The ring that stores the frames of a play list.
use Rattle.std.specs.Prelude.{◌≡◌, ◌+◌, ◌≤◌, ℤ, List, length, drop, Option, None, All, IfSome}
use Rattle.std.specs.Prelude.{slice_index_or}
use Rattle.mg_words.specs.Limits.{min_depth, max_depth}
use Rattle.circular_buffer.specs.Buffer.{Buffer}
use Rattle.mg_g711.specs.Frame.{IsFrame}
use Rattle.mg_playout.specs.Places.{FramePlaces}

-- The invariant of the ring, which holds the last frame and the places.
pub record IsRingOfPlaces (ring : Buffer (Option (List ℤ))) : Type 0 where
  pub capacity : ring.capacity ≡ max_depth + 1
  pub at_least : min_depth + 1 ≤ length ring.items
  pub at_most : length ring.items ≤ max_depth + 1
  pub frames : All (λ item. IfSome item IsFrame) ring.items

-- The frames that a play list keeps: the frame that was due in the last tick, if it had arrived, and the frames that
-- are waiting.
pub record KeptFrames : Type 0 where
  pub last : Option (List ℤ)
  pub places : FramePlaces

-- The contents of the ring, whose first item is the last frame.
abbrev pub kept_in : List (Option (List ℤ)) → KeptFrames
kept_in items = record { last = slice_index_or items 0 None; places = drop 1 items }

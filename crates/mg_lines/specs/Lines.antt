-- Lines of text.
use Rattle.std.specs.Prelude.{ℕ, ◌-◌, Bool, ◌==◌, List, [], ◌∷◌, ◌++◌, length, take, slice_index}
use Rattle.std.specs.Prelude.{if◌then◌else◌}

-- A line without the carriage return that may end it.
abbrev pub without_return : List ℕ → List ℕ
without_return line =
    if slice_index line (length line - 1) == 13 then take (length line - 1) line else line

-- The lines of a partial line and the text after it, up to the last line feed. If the text has ended, a non-empty rest
-- is one more line.
unfoldable pub lines_after : Bool → List ℕ → List ℕ → List (List ℕ)
lines_after ended partial [] =
    if length partial == 0 then [] else (if ended then partial ∷ [] else [])
lines_after ended partial (b ∷ bs) =
    if b == 10 then without_return partial ∷ lines_after ended [] bs
    else lines_after ended (partial ++ b ∷ []) bs

abbrev pub lines_of : Bool → List ℕ → List (List ℕ)
lines_of ended text = lines_after ended [] text

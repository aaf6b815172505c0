-- The text of a journal: complete lines.
use Rattle.std.specs.Prelude.{◌≡◌, ℕ, ◌-◌, Bool, ◌==◌, List, [], ◌∷◌, length, slice_index}
use Rattle.std.specs.Prelude.{if◌then◌else◌}
use Rattle.std.specs.List.{list_any}

-- Whether the bytes have a line feed.
abbrev pub has_line_feed : List ℕ → Bool
has_line_feed bytes = list_any (λ b. b == 10) bytes

-- The complete lines of some bytes: all bytes up to the last line feed. Bytes after the last line feed are a partial
-- line.
unfoldable pub whole_lines : List ℕ → List ℕ
whole_lines [] = []
whole_lines (b ∷ bytes) = if has_line_feed (b ∷ bytes) then b ∷ whole_lines bytes else []

-- All lines are complete, including the last line.
abbrev pub IsWhole : List ℕ → Type 0
IsWhole bytes = whole_lines bytes ≡ bytes

-- The last byte is a line feed.
abbrev pub EndsInLineFeed : List ℕ → Type 0
EndsInLineFeed lines = slice_index lines (length lines - 1) ≡ 10

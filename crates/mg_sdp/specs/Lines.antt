-- The lines of a session description (RFC 4566, section 5). By this project's own rule, empty lines are ignored, and so
-- are spaces and tabs at both ends of a line.
use Rattle.std.specs.Prelude.{ℕ, ◌==◌, ◌-◌, ◌||◌, ◌&&◌, Bool, true, false, List, [], ◌∷◌, length}
use Rattle.std.specs.Prelude.{map, filter, take, drop, Option, Some, None, is_some, if◌then◌else◌}
use Rattle.std.specs.List.{prefix_len, suffix_len, slice_split, filter_map}
use Rattle.std.specs.Option.{option_and_then}
use Rattle.std.specs.Char.{is_ascii_alphabetic}
use Rattle.std.specs.Str.{byte}
use Rattle.mg_words.specs.LineEnd.{is_line_end}

-- Whether a byte is a space or a tab.
abbrev pub is_space_or_tab : ℕ → Bool
is_space_or_tab b = b == byte " " || b == byte "\t"

-- Whether text is not empty.
abbrev pub is_filled : List ℕ → Bool
is_filled [] = false
is_filled (b ∷ text) = true

-- These definitions remove the spaces and tabs at the end of text, and at both ends.
abbrev pub trimmed_end : List ℕ → List ℕ
trimmed_end text = take (length text - suffix_len is_space_or_tab text) text

abbrev pub trimmed : List ℕ → List ℕ
trimmed text = trimmed_end (drop (prefix_len is_space_or_tab text) text)

-- The lines of a descriptor's content.
unfoldable pub content_lines : List ℕ → List (List ℕ)
content_lines content = filter is_filled (map trimmed (slice_split is_line_end content))

-- The letter and the value of a line. A line consists of a letter, = and a value.
unfoldable pub letter_and_value : List ℕ → Option (ℕ × List ℕ)
letter_and_value (letter ∷ equals ∷ value) =
    if is_ascii_alphabetic letter && equals == byte "=" then Some (letter, value) else None
letter_and_value _ = None

abbrev pub is_line : List ℕ → Bool
is_line line = is_some (letter_and_value line)

-- The value of a line, if the line has this letter.
abbrev pub line_value : ℕ → List ℕ → Option (List ℕ)
line_value letter line =
    option_and_then (λ parts. if parts.0 == letter then Some parts.1 else None)
    (letter_and_value line)

-- The values of the lines with this letter.
abbrev pub values_of : ℕ → List (List ℕ) → List (List ℕ)
values_of letter lines = filter_map (line_value letter) lines

-- Splitting text in two.
use Rattle.std.specs.Prelude.{ℕ, ◌+◌, ◌==◌, nat_lt, List, length, take, drop, Option, Some, None}
use Rattle.std.specs.Prelude.{if◌then◌else◌}
use Rattle.std.specs.List.{position_or_len}
use Rattle.std.specs.Str.{str_eq_ignore_ascii_case}

-- The text before and after the byte at a position, if the position is inside the text.
abbrev pub cut_at : List ℕ → ℕ → Option (List ℕ × List ℕ)
cut_at text n = if nat_lt n (length text) then Some (take n text, drop (n + 1) text) else None

-- The text before and after the first occurrence of a byte, if the byte occurs.
abbrev pub cut : ℕ → List ℕ → Option (List ℕ × List ℕ)
cut byte text = cut_at text (position_or_len (λ b. b == byte) text)

-- The text after a prefix, if the text starts with the prefix. Case is ignored.
unfoldable pub after_prefix : List ℕ → List ℕ → Option (List ℕ)
after_prefix prefix text =
    if str_eq_ignore_ascii_case (take (length prefix) text) prefix
    then Some (drop (length prefix) text) else None

-- Bytes of a word (RFC 3525, Annex B.2, SafeChar). Which bytes a word may contain is this profile's
-- choice.
use Rattle.std.specs.Prelude.{ℕ, Bool, ◌||◌, ◌&&◌, ◌==◌, not, nat_le}

-- Whether a byte is one of the marks: { } , = ; "
abbrev pub is_mark : ℕ → Bool
is_mark b = b == 123 || b == 125 || b == 44 || b == 61 || b == 59 || b == 34

-- Whether a byte is visible ASCII and not a mark.
abbrev pub is_word_byte : ℕ → Bool
is_word_byte b = nat_le 33 b && nat_le b 126 && not (is_mark b)

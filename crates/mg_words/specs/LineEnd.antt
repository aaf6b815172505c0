-- Line ends (RFC 3525, Annex B.2, EOL; RFC 4566, section 5).
use Rattle.std.specs.Prelude.{ℕ, Bool, ◌||◌, ◌==◌}

-- Whether a byte is a carriage return or a line feed.
abbrev pub is_line_end : ℕ → Bool
is_line_end b = b == 13 || b == 10

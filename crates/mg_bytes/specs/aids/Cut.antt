-- Shortening text.
use Rattle.std.specs.Prelude.{ℕ, ◌+◌, ◌-◌, length, take}
use Rattle.mg_bytes.specs.Bytes.{Written}

-- The first `len` bytes of the text.
abbrev pub cut_to : ℕ → Written → Written
cut_to len old = record { text = take len old.text; room = old.room + (length old.text - len) }

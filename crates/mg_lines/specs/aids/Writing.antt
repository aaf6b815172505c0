-- The effect of one write.
use Rattle.std.specs.Prelude.{ℕ, ◌≤◌, List, length, take, Option, Result, Ok, Err}
use Rattle.std.specs.Io.KnownBytes.{Keeps, Appends}
use Rattle.mg_lines.specs.declared.write_failed.WriteFailed.{WriteFailed}

-- The writer wrote this many bytes of the text, or failed.
abbrev pub WritesSome : List ℕ → Option (List ℕ) → Option (List ℕ) → Result ℕ WriteFailed → Type 0
WritesSome text old new (Ok n) = (n ≤ length text) × Appends old new (take n text)
WritesSome text old new (Err failed) = Keeps old new

-- The effects of reading and writing on streams.
use Rattle.std.specs.Prelude.{◌≡◌, ℕ, ◌<◌, ◌≤◌, List, ◌++◌, length, take, Option, Some, None, Result, Ok}
use Rattle.std.specs.Prelude.{Err}
use Rattle.std.specs.Io.KnownBytes.{Keeps, Appends, Consumes, IsAtEnd}
use Rattle.mg_lines.specs.declared.read_failed.ReadFailed.{ReadFailed}
use Rattle.mg_lines.specs.declared.write_failed.WriteFailed.{WriteFailed}

-- A read returned some bytes, met the end of the input, or failed.
abbrev pub ReadsSome : List ℕ → Option (List ℕ) → Option (List ℕ) → Result (Option ℕ) ReadFailed
    → Type 0
ReadsSome buffer old new (Ok None) = Keeps old new × IsAtEnd new
ReadsSome buffer old new (Ok (Some n)) = (n ≤ length buffer) × Consumes old new (take n buffer)
ReadsSome buffer old new (Err failed) = Keeps old new

-- A proper prefix of the text was written.
pub record WritesFront (text : List ℕ) (old new : Option (List ℕ)) : Type 0 where
  pub front : List ℕ
  pub rest : List ℕ
  pub parts : text ≡ front ++ rest
  pub cut : 0 < length rest
  pub written : Appends old new front

-- The whole text was written, or the writer failed after a proper prefix of it.
abbrev pub Writes : List ℕ → Option (List ℕ) → Option (List ℕ) → Result (Unit {0}) WriteFailed
    → Type 0
Writes text old new (Ok done) = Appends old new text
Writes text old new (Err failed) = WritesFront text old new

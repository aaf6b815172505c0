-- The state of reading a journal's file before lines are appended to it.
use Rattle.std.specs.Prelude.{ℕ, List, drop, Option}
use Rattle.std.specs.Option.{option_map}
use Rattle.mg_journal.specs.Text.{whole_lines}
use Rattle.mg_journal.specs.JournalFile.{FileState}

-- The file, and the number of bytes of its complete lines that were read.
pub record OpeningState : Type 0 where
  pub file : FileState
  pub read : ℕ

-- The complete lines that remain to be read, if they are known.
abbrev pub left_to_read : OpeningState → Option (List ℕ)
left_to_read o = option_map (λ bytes. drop o.read (whole_lines bytes)) o.file.bytes

-- The text of the journal in a file.
abbrev pub text_in : FileState → Option (List ℕ)
text_in file = option_map whole_lines file.bytes

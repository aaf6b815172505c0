-- Reading a journal's file before lines are appended to it.
use Rattle.std.specs.Prelude.{ℕ, ◌≤◌, List, length, Option, Some, None}
use Rattle.mg_journal.specs.JournalFile.{FileState}

-- The disk has at most as many bytes as the file.
abbrev pub IsWithin : (synced bytes : Option (List ℕ)) → Type 0
IsWithin None bytes = Unit {0}
IsWithin (Some synced) None = ⊥
IsWithin (Some synced) (Some bytes) = length synced ≤ length bytes

abbrev pub IsSound : FileState → Type 0
IsSound file = IsWithin file.synced file.bytes

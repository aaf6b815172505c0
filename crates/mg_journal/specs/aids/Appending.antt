-- A journal in a file.
use Rattle.std.specs.Prelude.{◌≡◌, ℕ, ◌≤◌, Bool, true, false, List, [], length, take, Result, Ok, Err}
use Rattle.std.specs.Prelude.{IfSome, if◌then◌else◌}
use Rattle.std.specs.Option.{option_map}
use Rattle.sha2.specs.declared.Sha256.{Sha256}
use Rattle.sha2.specs.Hashers.{Holds256}
use Rattle.mg_chain.specs.Seals.{last_part}
use Rattle.mg_journal.specs.declared.append_fault.AppendFault.{AppendFault}
use Rattle.mg_journal.specs.declared.append_fault.AppendFault.TheVariants.{Refused, Broken}
use Rattle.mg_journal.specs.declared.durability.Durability.{Durability}
use Rattle.mg_journal.specs.declared.failed_append.FailedAppend.{FailedAppend}
use Rattle.mg_journal.specs.Text.{IsWhole, whole_lines}
use Rattle.mg_journal.specs.Journal.{JournalState, is_synced}
use Rattle.mg_journal.specs.JournalFile.{FileState, grown, cut_to, synced}

-- The journal in a file.
abbrev pub journal_in : FileState → (is_broken : Bool) → JournalState
journal_in file is_broken = record {
  text = option_map whole_lines file.bytes;
  synced = option_map whole_lines file.synced;
  is_broken = is_broken;
}

-- Unless the journal is broken, its file holds complete lines of this total length, and at most
-- that many bytes are on the disk.
abbrev pub IsJournal : FileState → ℕ → Bool → Type 0
IsJournal file len true = Unit {0}
IsJournal file len false =
    IfSome file.bytes (λ bytes. IsWhole bytes × (length bytes ≡ len))
    × IfSome file.synced (λ bytes. length bytes ≤ len)

-- Unless the journal is broken, this is the hash of the last part of its file.
abbrev pub IsHashed : FileState → Sha256 → Bool → Type 0
IsHashed file hasher true = Unit {0}
IsHashed file hasher false = IfSome file.bytes (λ bytes. Holds256 hasher (last_part bytes))

-- The whole text was written. On an error, only a prefix of it was written.
abbrev pub Writes : {E : Type 0} → List ℕ → FileState → FileState → Result (Unit {0}) E → Type 0
Writes text old new (Ok done) = new ≡ grown old text
Writes text old new (Err error) = (n : ℕ) × (new ≡ grown old (take n text))

-- The file was truncated to the given length. If that failed, the file is unchanged.
abbrev pub CutsBack : ℕ → FileState → FileState → AppendFault → Type 0
CutsBack len old new Refused = new ≡ cut_to len old
CutsBack len old new Broken = new ≡ old

-- A prefix of the text was written. If the fault is `Refused`, the file was then truncated to this length.
abbrev pub Leaves : List ℕ → ℕ → FileState → FileState → AppendFault → Type 0
Leaves text len old new Refused = (n : ℕ) × (new ≡ cut_to len (grown old (take n text)))
Leaves text len old new Broken = (n : ℕ) × (new ≡ grown old (take n text))

abbrev pub Puts : List ℕ → ℕ → Durability → FileState → FileState
    → Result (Unit {0}) FailedAppend → Type 0
Puts text len durability old new (Ok done) =
    new ≡ (if is_synced durability then synced (grown old text) else grown old text)
Puts text len durability old new (Err failed) = Leaves text len old new failed.fault

-- The file after it was replaced by a new file with this text.
abbrev pub replaced : List ℕ → Durability → FileState → FileState
replaced text durability old = record {
  bytes = option_map (λ bytes. text) old.bytes;
  synced = if is_synced durability then option_map (λ bytes. text) old.bytes else option_map (λ bytes. []) old.synced;
}

-- The file was replaced by a new file with this text, or is unchanged.
abbrev pub IsReplaced : {E : Type 0} → List ℕ → Durability → FileState → FileState → Result (Unit {0}) E → Type 0
IsReplaced text durability old new (Ok done) = new ≡ replaced text durability old
IsReplaced text durability old new (Err error) = new ≡ old

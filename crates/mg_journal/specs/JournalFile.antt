-- The effects of calls on the bytes of a journal's file.
use Rattle.std.specs.Prelude.{◌≡◌, ℕ, ◌<◌, ◌≤◌, List, [], length, take, drop}
use Rattle.std.specs.Prelude.{Option, None, Result, Ok, Err, IfSome}
use Rattle.std.specs.Option.{option_map}
use Rattle.std.specs.Io.{StartsWith}
use Rattle.std.specs.Io.KnownBytes.{append_known}

-- The known bytes of a file, and the bytes that a sync has put on the disk. Unknown bytes stay unknown.
pub record FileState : Type 0 where
  pub bytes : Option (List ℕ)
  pub synced : Option (List ℕ)

-- A file of which nothing is known.
abbrev pub unknown : FileState
unknown = record { bytes = None; synced = None }

-- The file after these bytes were appended.
abbrev pub grown : FileState → List ℕ → FileState
grown file more = record file { bytes = append_known file.bytes more }

-- The file after it was truncated to this length.
abbrev pub cut_to : ℕ → FileState → FileState
cut_to len file = record {
  bytes = option_map (λ bytes. take len bytes) file.bytes;
  synced = option_map (λ bytes. take len bytes) file.synced;
}

-- The file after all of its bytes were put on the disk.
abbrev pub synced : FileState → FileState
synced file = record file { synced = file.bytes }

-- A file without bytes.
abbrev pub emptied : FileState → FileState
emptied file = record {
  bytes = option_map (λ bytes. []) file.bytes;
  synced = option_map (λ bytes. []) file.synced;
}

-- The file has these bytes at this offset. The list is empty only if the file ends there.
abbrev pub HasAt : FileState → ℕ → List ℕ → Type 0
HasAt file at part =
    IfSome file.bytes (λ bytes. StartsWith (drop at bytes) part × (part ≡ [] → drop at bytes ≡ []))

-- A call that may fail changed a state in this way, or failed and changed nothing.
abbrev pub Changes : {S E : Type 0} → (S → S) → (old new : S) → Result (Unit {0}) E → Type 0
Changes change old new (Ok done) = new ≡ change old
Changes change old new (Err error) = new ≡ old

module _ {E : Type 0} where
  -- A read at an offset returned some bytes, or failed. The file is unchanged.
  abbrev pub ReadsAt : ℕ → List ℕ → FileState → FileState → Result ℕ E → Type 0
  ReadsAt at buffer old new (Ok n) =
      (n ≤ length buffer) × (0 < length buffer → HasAt old at (take n buffer)) × (new ≡ old)
  ReadsAt at buffer old new (Err error) = new ≡ old

  -- A write appended some of the text, or failed and changed nothing.
  abbrev pub WritesSome : List ℕ → FileState → FileState → Result ℕ E → Type 0
  WritesSome text old new (Ok n) = (n ≤ length text) × (new ≡ grown old (take n text))
  WritesSome text old new (Err error) = new ≡ old

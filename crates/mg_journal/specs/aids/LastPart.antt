-- Finding and hashing the last part of a file.
use Rattle.std.specs.Prelude.{◌≡◌, ℕ, ◌≤◌, false, List, length, take, drop, Option, Some, None, Result, Ok, Err, IfSome}
use Rattle.sha2.specs.declared.Sha256.{Sha256}
use Rattle.sha2.specs.Hashers.{Holds256}
use Rattle.mg_chain.specs.Seals.{has_mark, last_part}
use Rattle.mg_journal.specs.JournalFile.{FileState}

-- The file has these bytes at this offset.
abbrev pub HasBytes : FileState → ℕ → List ℕ → Type 0
HasBytes file at part = IfSome file.bytes (λ bytes. part ≡ take (length part) (drop at bytes))

-- In the first `whole` bytes, no line after this offset begins like a seal.
abbrev pub IsSearched : FileState → (whole from : ℕ) → Type 0
IsSearched file whole from = IfSome file.bytes (λ bytes. has_mark (drop from (take whole bytes)) ≡ false)

-- The last part of the first `whole` bytes begins at `start`.
abbrev pub StartsAt : FileState → (whole start : ℕ) → Type 0
StartsAt file whole start =
    (start ≤ whole) × IfSome file.bytes (λ bytes. last_part (take whole bytes) ≡ drop start (take whole bytes))

-- The search found the start of the last part, or found no mark after this offset.
abbrev pub Searches : {E : Type 0} → FileState → (whole at : ℕ) → Result (Option ℕ) E → Type 0
Searches file whole at (Ok (Some start)) = StartsAt file whole start
Searches file whole at (Ok None) = IsSearched file whole at
Searches file whole at (Err error) = Unit {0}

-- The hasher holds the bytes of the file between the two offsets.
abbrev pub HoldsFrom : FileState → (start at : ℕ) → Sha256 → Type 0
HoldsFrom file start at hasher = IfSome file.bytes (λ bytes. Holds256 hasher (drop start (take at bytes)))

-- The hasher holds the last part of the file's first `whole` bytes.
abbrev pub HasHash : FileState → (whole : ℕ) → Sha256 → Type 0
HasHash file whole hasher = IfSome file.bytes (λ bytes. Holds256 hasher (last_part (take whole bytes)))

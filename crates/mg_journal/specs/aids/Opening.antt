-- Measuring a file before it is read.
use Rattle.std.specs.Prelude.{◌≡◌, ℕ, ◌≤◌, List, length, take, Option, Some, None, Result, Ok, Err, IfSome}
use Rattle.mg_journal.specs.declared.extent.Extent.{Extent}
use Rattle.mg_journal.specs.Text.{whole_lines}
use Rattle.mg_journal.specs.JournalFile.{FileState}

-- The extent has the lengths of these bytes and of their complete lines.
abbrev pub IsExtent : Extent → List ℕ → Type 0
IsExtent extent bytes = (extent.whole ≡ length (whole_lines bytes)) × (extent.all ≡ length bytes)

abbrev pub HasExtent : FileState → Extent → Type 0
HasExtent file extent = IfSome file.bytes (λ bytes. IsExtent extent bytes)

-- This is the extent of a prefix of the file.
abbrev pub HasFront : FileState → Extent → Type 0
HasFront file extent =
    IfSome file.bytes (λ bytes. (extent.all ≤ length bytes) × IsExtent extent (take extent.all bytes))

-- Either the measured prefix is the whole file, or a longer prefix was measured.
abbrev pub Measures : {E : Type 0} → FileState → Extent → Result (Option Extent) E → Type 0
Measures file extent (Ok None) = HasFront file extent → HasExtent file extent
Measures file extent (Ok (Some longer)) = HasFront file extent → HasFront file longer
Measures file extent (Err error) = Unit {0}

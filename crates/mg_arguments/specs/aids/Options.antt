-- Faults of options.
use Rattle.std.specs.Prelude.{◌≡◌, ℕ, List, [], ◌∷◌, Result, Ok, Err}
use Rattle.clap.specs.Kinds.{Kinds}
use Rattle.clap.specs.declared.error.kind.ErrorKind.TheVariants.{ValueValidation}
use Rattle.mg_service.specs.declared.file_path_fault.FilePathFault.{FilePathFault}
use Rattle.mg_arguments.specs.declared.option_fault.OptionFault.{OptionFault}
use Rattle.mg_arguments.specs.declared.option_fault.OptionFault.TheVariants.{Invalid, NoMemory}

-- The options request no run, because of this fault. Memory can always run out.
abbrev pub Refuses : {A : Type 0} → OptionFault → Result A Kinds → Type 0
Refuses (Invalid message) requested = requested ≡ Err (ValueValidation ∷ [])
Refuses NoMemory requested = Unit {0}

-- A fault other than lack of memory.
abbrev pub IsInvalid : OptionFault → Type 0
IsInvalid (Invalid message) = Unit {0}
IsInvalid NoMemory = ⊥

-- The paths are those that strings are read as. If there are no paths but a fault, a string is no path, or memory ran
-- out.
abbrev pub PathsAre : Result (List (List ℕ)) FilePathFault → Result (List (List ℕ)) OptionFault → Type 0
PathsAre read (Ok paths) = read ≡ Ok paths
PathsAre read (Err (Invalid message)) = (fault : FilePathFault) × (read ≡ Err fault)
PathsAre read (Err NoMemory) = Unit {0}

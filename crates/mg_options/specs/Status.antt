-- Exit statuses.
use Rattle.std.specs.Prelude.{◌≡◌, ◌⊎◌, ℕ}
use Rattle.mg_options.specs.declared.status.Status.{Status}
use Rattle.mg_options.specs.declared.status.Status.TheVariants.{Done, BadLine, Usage, Failed}
use Rattle.mg_options.specs.declared.status.Status.TheVariants.{NoAnswer, NoMemory, NoPort}
use Rattle.mg_options.specs.declared.status.Status.TheVariants.{BadJournal, CouldNotHear, Unknown, RuleBroken}

unfoldable pub code_of : Status → ℕ
code_of Done = 0
code_of BadLine = 1
code_of Usage = 2
code_of NoAnswer = 2
code_of CouldNotHear = 1
code_of Unknown = 2
code_of RuleBroken = 1
code_of Failed = 3
code_of NoMemory = 4
code_of NoPort = 5
code_of BadJournal = 6

-- Unless the run ended with a fault, `done` is true. A fault is a failed read or write, a lack of memory, or a file
-- that can't be used.
abbrev pub UnlessFault : (done : Type 0) → Status → Type 0
UnlessFault done status =
    ((status ≡ Failed) ⊎ (status ≡ NoMemory) ⊎ (status ≡ BadJournal)) ⊎ done

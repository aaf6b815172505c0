-- How a program ends, given its arguments.
use Rattle.std.specs.Prelude.{◌≡◌, ◌⊎◌, ℕ, IsOkAnd, Result}
use Rattle.clap.specs.Kinds.{Kinds}
use Rattle.clap.specs.declared.error.kind.ErrorKind.{ErrorKind}
use Rattle.clap.specs.declared.error.kind.ErrorKind.TheVariants.{OutOfMemory, DisplayHelp}
use Rattle.clap.specs.declared.error.kind.ErrorKind.TheVariants.{DisplayVersion}
use Rattle.mg_options.specs.Requested.{IsRefused}
use Rattle.mg_options.specs.Status.{code_of}
use Rattle.mg_options.specs.declared.status.Status.{Status}
use Rattle.mg_options.specs.declared.status.Status.TheVariants.{Done, Usage, NoMemory}

-- The effect of reporting an error of this kind on an output. Help and the version are printed to the output, unless
-- that fails. Other errors leave the output unchanged.
abbrev pub ReportsError : {W : Type 0} → ErrorKind → (unprinted : Status) → W → W → Status → Type 0
ReportsError OutOfMemory unprinted old new status = (status ≡ NoMemory) × (new ≡ old)
ReportsError DisplayHelp unprinted old new status = (status ≡ Done) ⊎ (status ≡ unprinted)
ReportsError DisplayVersion unprinted old new status = (status ≡ Done) ⊎ (status ≡ unprinted)
ReportsError kind unprinted old new status = (status ≡ Usage) × (new ≡ old)

-- The arguments were rejected, one error was reported, and everything else is unchanged.
pub record ReportsOneError {A W : Type 0} (requested : Result A Kinds) (unprinted : Status)
    (left silent : Type 0) (old new : W) (status : Status) : Type 0 where
  pub kind : ErrorKind
  pub refused : IsRefused requested kind
  pub is_left : left
  pub reported : ReportsError kind unprinted old new status
  pub quiet : status ≡ Done → silent

-- How a program ends, with its exit status: either the run that the arguments ask for took place,
-- or an error was reported.
pub record EndsWith {A W : Type 0} (Runs : A → Status → Type 0) (requested : Result A Kinds)
    (unprinted : Status) (left silent : Type 0) (old new : W) (code : ℕ) : Type 0 where
  pub status : Status
  pub reported : code ≡ code_of status
  pub ends : IsOkAnd requested (λ run. Runs run status)
      ⊎ ReportsOneError requested unprinted left silent old new status

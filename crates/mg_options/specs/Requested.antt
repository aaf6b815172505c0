-- The run that the arguments request or, if they request no run, the kinds of errors that say why. A request for help
-- or for the version counts as such an error.
use Rattle.std.specs.Prelude.{◌≡◌, ◌⊎◌, [], ◌∷◌, IsErrAnd, Result, Err}
use Rattle.clap.specs.Kinds.{Kinds, IsAmong}
use Rattle.clap.specs.declared.error.kind.ErrorKind.{ErrorKind}
use Rattle.clap.specs.declared.error.kind.ErrorKind.TheVariants.{OutOfMemory}

-- The result of reading the arguments, unless the parser reports an error.
abbrev pub requested_by : {A : Type 0} → Kinds → Result A Kinds → Result A Kinds
requested_by [] read = read
requested_by (kind ∷ kinds) read = Err (kind ∷ kinds)

-- The arguments are rejected with an error of this kind: they ask for no run, or memory ran out,
-- which can always happen.
abbrev pub IsRefused : {A : Type 0} → Result A Kinds → ErrorKind → Type 0
IsRefused requested kind = (kind ≡ OutOfMemory) ⊎ IsErrAnd requested (IsAmong kind)

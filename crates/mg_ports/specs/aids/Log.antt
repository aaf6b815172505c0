-- A log of calls.
use Rattle.std.specs.Prelude.{◌≡◌, [], ◌∷◌, ◌++◌, List, Option, Some, None}
use Rattle.mg_ports.specs.declared.call.Call.{Call}

-- The log grows by a call, or is lost.
abbrev pub LogsNext : Option (List Call) → Option (List Call) → Option Call → Type 0
LogsNext old None call = Unit {0}
LogsNext old (Some all) None = ⊥
LogsNext None (Some all) (Some call) = ⊥
LogsNext (Some before) (Some all) (Some call) = all ≡ before ++ call ∷ []

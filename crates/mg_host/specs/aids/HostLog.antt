-- A log of calls on a host.
use Rattle.std.specs.Prelude.{◌≡◌, [], ◌∷◌, ◌++◌, List, Option, Some, None}
use Rattle.mg_host.specs.declared.host_call.HostCall.{HostCall}

-- The log grows by a call, or is lost.
abbrev pub LogsNext : Option (List HostCall) → Option (List HostCall) → Option HostCall → Type 0
LogsNext old None call = Unit {0}
LogsNext old (Some all) None = ⊥
LogsNext None (Some all) (Some call) = ⊥
LogsNext (Some before) (Some all) (Some call) = all ≡ before ++ call ∷ []

-- The calls on the host that a gateway makes for some calls of a session.
use Rattle.std.specs.Prelude.{◌≡◌, List, ◌++◌, Option, Some, None}
use Rattle.mg_host.specs.declared.host_call.HostCall.{HostCall}
use Rattle.mg_host.specs.HostCalls.{on_ports}
use Rattle.mg_ports.specs.declared.call.Call.{Call}
use Rattle.mg_program.specs.Decisions.{Decides, Knows}

-- A session made these calls on its ports. The host's log, if there is one, shows that the host made each call once, or
-- that the gateway left it out for a reason. Besides, it shows only polls and the sockets that they reported.
abbrev pub DoesCalls : (old new : Option (List HostCall)) → List Call → (first last : Knows) → Type 0
DoesCalls old None calls first last = Unit {0}
DoesCalls None (Some all) calls first last = ⊥
DoesCalls (Some before) (Some all) calls first last =
    (done : List HostCall) × (all ≡ before ++ done) × (on_ports done ≡ calls) × Decides first done last

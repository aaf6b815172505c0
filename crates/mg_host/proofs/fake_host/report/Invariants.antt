use Rattle.std.proofs.Common.{◌≡◌, List, ℕ, map}
use Rattle.mg_host.specs.declared.host_call.HostCall.TheVariants.{Reported}
use Rattle.mg_host.specs.HostCalls.{Grows, mark_all}
use Rattle.mg_host.proofs.fake_host.report.Given as goal

-- The sockets so far were reported and marked.
abbrev pub invariant-loop-arrival : goal.invariant-loop-arrival
invariant-loop-arrival l =
    (sockets : List ℕ) × Grows l.initial.log l.log (map Reported sockets)
    × (l.marks ≡ mark_all sockets l.initial.marks)

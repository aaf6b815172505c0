use Rattle.std.proofs.Common.{take}
use Rattle.mg_host.specs.HostCalls.{Grows}
use Rattle.mg_program.specs.aids.Binding.{other_binds}
use Rattle.mg_program.proofs.binding.bind_others.Given as goal

abbrev pub invariant-loop-address : goal.invariant-loop-address
invariant-loop-address g l =
    Grows (g.H.Tells.calls l.fn.host) (g.H.Tells.calls l.host) (other_binds l.port (take l.address-index l.addresses))

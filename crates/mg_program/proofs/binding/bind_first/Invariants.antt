use Rattle.mg_host.specs.HostCalls.{Grows}
use Rattle.mg_program.specs.aids.Binding.{first_binds}
use Rattle.mg_program.proofs.binding.bind_first.Given as goal

abbrev pub invariant-loop-slot : goal.invariant-loop-slot
invariant-loop-slot g l =
    Grows (g.H.Tells.calls l.fn.host) (g.H.Tells.calls l.host) (first_binds l.config l.fn.bind_address l.slot)

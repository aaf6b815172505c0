use Rattle.std.proofs.Common.{refl}
use Rattle.mg_topology.proofs.TopologyLemmas.{leave_stands}
use Rattle.mg_topology.proofs.topology.Topology.leave.Goals as goal

pub returns-clause-edits : goal.returns-clause-edits
returns-clause-edits c = rw (← c.self.view_is)
    (λ es h. leave_stands _ _ c.args.seat es c.without_seat-self-inside.ensures.seats refl h)

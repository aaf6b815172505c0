use Rattle.std.proofs.Common.{◌∙◌, ap, arith}
use Rattle.mg_topology.specs.aids.Topology.{holds}
use Rattle.mg_topology.proofs.MaskLemmas.{has_seat-inside}
use Rattle.mg_topology.proofs.topology.Topology.held.Goals as goal

pub returns-clause-kept : goal.returns-clause-kept
returns-clause-kept c = λ seat. has_seat-inside _ seat (omega arith) ∙ ap (λ k. holds k seat) c.self.view_is

pub returns-clause-edits : goal.returns-clause-edits
returns-clause-edits c = λ es h seat. has_seat-inside _ seat (omega arith) ∙ ap (λ k. holds k seat) c.self.view_is ∙
    h.seats seat

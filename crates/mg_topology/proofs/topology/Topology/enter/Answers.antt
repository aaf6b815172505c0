use Rattle.std.proofs.Common.{◌<◌, length, arith, get_or-set_same, get_or-set_other}
use Rattle.mg_topology.proofs.MaskLemmas.{has_seat-full}
use Rattle.mg_topology.proofs.TopologyLemmas.{enter_stands}
use Rattle.mg_topology.proofs.topology.Topology.enter.Goals as goal

pub returns-clause-edits : goal.returns-clause-edits
returns-clause-edits c =
    rw (← c.self.view_is) (λ es h. enter_stands _ _ c.args.seat es c.requires.below_limit
    c.with_seat-self-inside.ensures
    (λ t p. let inside : c.args.seat < length c.unmute_seat.new.rows = omega arith in
    rw get_or-set_same (has_seat-full t p))
    (λ t l p d. rw get_or-set_other (c.unmute_seat.ensures t l p))
    h)

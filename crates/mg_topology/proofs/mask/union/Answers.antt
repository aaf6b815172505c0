use Rattle.mg_topology.proofs.MaskLemmas.{has_seat-or}
use Rattle.mg_topology.proofs.mask.union.Goals as goal

pub returns : goal.returns
returns c = has_seat-or c.args.a c.args.b

use Rattle.mg_topology.proofs.MaskLemmas.{has_seat-and}
use Rattle.mg_topology.proofs.mask.intersection.Goals as goal

pub returns : goal.returns
returns c = has_seat-and c.args.a c.args.b

use Rattle.mg_topology.proofs.MaskLemmas.{has_seat-shr}
use Rattle.mg_topology.proofs.mask.has_seat.Goals as goal

pub returns : goal.returns
returns c = has_seat-shr c.args.mask c.args.seat

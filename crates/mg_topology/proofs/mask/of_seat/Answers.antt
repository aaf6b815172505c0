use Rattle.mg_topology.proofs.MaskLemmas.{has_seat-shl}
use Rattle.mg_topology.proofs.mask.of_seat.Goals as goal

pub returns : goal.returns
returns c = λ s. has_seat-shl c.args.seat s c.requires

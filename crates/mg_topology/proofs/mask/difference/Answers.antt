use Rattle.std.proofs.Common.{arith}
use Rattle.mg_topology.proofs.MaskLemmas.{has_seat-less}
use Rattle.mg_topology.proofs.mask.difference.Goals as goal

pub returns-clause-seats : goal.returns-clause-seats
returns-clause-seats c = λ s. has_seat-less c.args.a c.args.b s (omega arith) (omega arith)

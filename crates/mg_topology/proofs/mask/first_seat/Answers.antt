use Rattle.std.proofs.Common.{arith}
use Rattle.mg_topology.proofs.MaskLemmas.{has_seat-empty, lowest_of}
use Rattle.mg_topology.proofs.mask.first_seat.Goals as goal

pub returns-then-mask-eq-EMPTY-clause-none : goal.returns-then-mask-eq-EMPTY-clause-none
returns-then-mask-eq-EMPTY-clause-none c = rw c.if-mask-eq-EMPTY.true has_seat-empty

pub returns-clause-some : goal.returns-clause-some
returns-clause-some c = lowest_of c.args.mask (omega arith) (omega arith)

use Rattle.mg_engine.proofs.Common.{arith}
use Rattle.mg_engine.proofs.WorkLemmas.{rises_twice}
use Rattle.mg_engine.proofs.joining.join_if_talking.Goals as goal

pub returns-clause-work : goal.returns-clause-work
returns-clause-work c = rises_twice 1 1 2 c.args.sums.now.work c.part.new.sums.work c.join.new.sums.work (omega arith)
    c.part.ensures.work c.join.ensures.work

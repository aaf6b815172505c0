use Rattle.mg_fence.proofs.ReachedLemmas.{reaches_more}
use Rattle.mg_fence.proofs.fence_reader.FenceReaderFollower.ticks.Goals as goal

pub returns-clause-value : goal.returns-clause-value
returns-clause-value c start base notes h run = reaches_more notes c.args._count c.args.self.now.reached h

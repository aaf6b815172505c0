use Rattle.std.proofs.Common.{◌*◌, ◌≤◌, []}
use Rattle.mg_core.specs.World.{World}
use Rattle.mg_core.specs.Follow.{HasRun}
use Rattle.mg_core.specs.aids.Resuming.{HasFollowed, KeepsLines}
use Rattle.mg_core.proofs.ResumedScriptLemmas.{Waits}
use Rattle.mg_core.proofs.resumer.Resumer.take_until_done.Given as goal

abbrev pub invariant-loop : goal.invariant-loop
invariant-loop g l = record {
  lines : l.self.lines ≤ 4096 * l.counter;
  value : (base : World) → HasRun base [] l.initial.self.runner.core.state →
      Waits g.F.Watcher.done (λ f. HasFollowed g.F.Follower.follows l.initial.follower f base)
      (KeepsLines base l.self.runner.core.state l.self.runner.counts l.self.runner.ticks
      (HasFollowed g.F.Follower.follows l.initial.follower l.follower base)) (g.R.Read.remaining l.initial.reader)
      (g.R.Read.remaining l.reader) l.self.partial.text l.self.lines;
}

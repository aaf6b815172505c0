use Rattle.std.proofs.Common.{◌*◌, ◌≤◌, []}
use Rattle.mg_core.specs.World.{World}
use Rattle.mg_core.specs.Follow.{HasRun}
use Rattle.mg_core.specs.aids.Resuming.{HasFollowed, KeepsLines}
use Rattle.mg_core.proofs.ResumedScriptLemmas.{Reaches}
use Rattle.mg_core.proofs.resumer.Resumer.take_all.Given as goal

abbrev pub invariant-loop : goal.invariant-loop
invariant-loop g l = record {
  lines : l.self.lines ≤ 4096 * l.counter;
  value : (base : World) → HasRun base [] l.initial.self.runner.core.state →
      Reaches (KeepsLines base l.self.runner.core.state l.self.runner.counts l.self.runner.ticks
      (HasFollowed g.F.Follower.follows l.initial.follower l.follower base)) (g.R.Read.remaining l.initial.reader)
      (g.R.Read.remaining l.reader) l.self.partial.text l.self.lines;
}

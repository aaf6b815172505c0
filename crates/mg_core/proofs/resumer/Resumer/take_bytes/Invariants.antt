use Rattle.std.proofs.Common.{◌+◌, ◌≤◌, length}
use Rattle.mg_core.specs.World.{World}
use Rattle.mg_core.specs.aids.Resuming.{BytesRun, HasFollowed, KeepsLines}
use Rattle.mg_core.proofs.resumer.Resumer.take_bytes.Given as goal

abbrev pub invariant-loop-end : goal.invariant-loop-end
invariant-loop-end g l = record {
  lines : l.self.lines + length l.rest ≤ l.initial.self.lines + length l.bytes;
  value : (start : g.row.F.Denot) (base : World) →
      BytesRun l.initial.self.lines l.self.lines l.initial.self.partial.text l.bytes l.self.partial.text l.rest
      (KeepsLines base l.initial.self.runner.core.state l.initial.self.runner.counts l.initial.self.runner.ticks
      (HasFollowed g.F.Follower.follows start l.initial.follower base))
      (KeepsLines base l.self.runner.core.state l.self.runner.counts l.self.runner.ticks
      (HasFollowed g.F.Follower.follows start l.follower base));
}

abbrev pub decreases-loop-end : goal.decreases-loop-end
decreases-loop-end g l = length l.rest

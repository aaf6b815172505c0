use Rattle.std.proofs.Common.{◌*◌, ◌≤◌}
use Rattle.mg_core.specs.World.{World}
use Rattle.mg_core.specs.declared.shown.Shown.{Shown}
use Rattle.mg_core.proofs.RunLemmas.{Comes, Followed}
use Rattle.mg_core.proofs.script_runner.ScriptRunner.take_all.Given as goal

abbrev pub invariant-loop : goal.invariant-loop
invariant-loop g l = record {
  lines : l.self.lines ≤ 4096 * l.counter;
  value : (shown : Shown) (base : World) → Followed shown l.initial.self.runner base →
      Comes shown base (g.R.Read.remaining l.initial.reader) (g.R.Read.remaining l.reader) l.self.partial.text
      l.self.lines
      l.self.runner l.self.runner.sent (g.W.Write.contents l.initial.writer) (g.W.Write.contents l.writer);
}

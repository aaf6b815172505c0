use Rattle.std.proofs.Common.{◌+◌, ◌≤◌, take, Ok}
use Rattle.mg_core.specs.declared.shown.Shown.{Shown}
use Rattle.mg_core.proofs.RunLemmas.{HasRun}
use Rattle.mg_core.proofs.script_runner.ScriptRunner.take_bytes.Given as goal

abbrev pub invariant-loop-b : goal.invariant-loop-b
invariant-loop-b g l = record {
  lines : l.self.lines ≤ l.initial.self.lines + l.b-index;
  value : (shown : Shown) → HasRun shown l.initial.self.lines l.self.lines l.initial.self.partial.text
      (take l.b-index l.bytes) l.self.partial.text l.initial.self.runner l.self.runner l.initial.self.runner.sent
      l.self.runner.sent (g.W.Write.contents l.initial.writer) (g.W.Write.contents l.writer) (Ok tt);
}

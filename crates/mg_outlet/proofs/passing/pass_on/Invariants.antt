use Rattle.std.proofs.Common.{◌≡◌, ◌-◌}
use Rattle.mg_outlet.proofs.PassingLemmas.{Led}
use Rattle.mg_outlet.proofs.passing.pass_on.Given as goal

abbrev pub invariant-loop-passed : goal.invariant-loop-passed
invariant-loop-passed g l = record {
  led : Led l.fn.chunks (l.fn.chunks - l._passed) l.initial.queue.items l.queue.items (g.P.Pipe.calls l.initial.pipe)
      (g.P.Pipe.calls l.pipe);
  limit : l.queue.capacity ≡ l.initial.queue.capacity;
}

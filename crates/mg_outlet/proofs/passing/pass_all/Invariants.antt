use Rattle.std.proofs.Common.{◌≡◌, ◌++◌, List}
use Rattle.mg_outlet.specs.Passing.{Continues, PipeCall, taken_in}
use Rattle.mg_outlet.proofs.passing.pass_all.Given as goal

abbrev pub invariant-loop : goal.invariant-loop
invariant-loop g l = record {
  passes : (calls : List PipeCall) × Continues (g.P.Pipe.calls l.initial.pipe) (g.P.Pipe.calls l.pipe) calls
      × (l.initial.queue.items ≡ taken_in calls ++ l.queue.items);
  limit : l.queue.capacity ≡ l.initial.queue.capacity;
}

use Rattle.std.proofs.Common.{◌≡◌, None, take}
use Rattle.mg_core.specs.Flows.{listener_at}
use Rattle.mg_core.proofs.changes.listener_at.Given as goal

-- None of the listeners so far has the number.
abbrev pub invariant-loop-x : goal.invariant-loop-x
invariant-loop-x l = listener_at (take l.x-index l.listeners) l.number ≡ None

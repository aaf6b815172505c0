use Rattle.std.proofs.Common.{◌≤◌, ◌-◌, length, take}
use Rattle.mg_heard.specs.aids.Opening.{AreBefore}
use Rattle.mg_heard.proofs.continuing.beginning_from.Given as goal

abbrev pub invariant-loop-from : goal.invariant-loop-from
invariant-loop-from l = record {
  within : l.from ≤ length l.intervals;
  passed : AreBefore l.flow (take l.fn.from l.intervals) → AreBefore l.flow (take l.from l.intervals);
}

abbrev pub decreases-loop-from : goal.decreases-loop-from
decreases-loop-from l = length l.intervals - l.from

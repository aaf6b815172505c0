use Rattle.std.proofs.Common.{◌≡◌, ◌*◌, ◌≤◌, length, take, flat_map}
use Rattle.mg_bytes.specs.Bytes.{appended}
use Rattle.mg_core.specs.Flows.{lines_of_old}
use Rattle.mg_core.proofs.changes.push_all_old.Given as goal

abbrev pub invariant-loop-old : goal.invariant-loop-old
invariant-loop-old l = record {
  value : l.out ≡ appended l.initial.out (flat_map (lines_of_old l.ticks l.after) (take l.old-index l.before));
  short : length (flat_map (lines_of_old l.ticks l.after) (take l.old-index l.before)) ≤ 61 * l.old-index;
}

use Rattle.std.proofs.Common.{◌≡◌, ◌-◌, ◌*◌, ◌≤◌, length, take}
use Rattle.mg_bytes.specs.Bytes.{appended}
use Rattle.mg_core.specs.Script.{escaped}
use Rattle.mg_core.proofs.output.push_escaped.Given as goal

abbrev pub invariant-loop-b : goal.invariant-loop-b
invariant-loop-b l = record {
  same : l.out ≡ appended l.initial.out (escaped (take l.b-index l.text));
  room : 2 * (length l.text - l.b-index) ≤ l.out.room;
}

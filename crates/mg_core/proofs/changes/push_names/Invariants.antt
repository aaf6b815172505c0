use Rattle.std.proofs.Common.{◌≡◌, ◌*◌, ◌≤◌, length, take, flat_map}
use Rattle.mg_bytes.specs.Bytes.{appended}
use Rattle.mg_core.specs.Flows.{name_in_line}
use Rattle.mg_core.proofs.changes.push_names.Given as goal

abbrev pub invariant-loop-number : goal.invariant-loop-number
invariant-loop-number l = record {
  value : l.out ≡ appended l.initial.out (flat_map name_in_line (take l.number-index l.numbers));
  short : length (flat_map name_in_line (take l.number-index l.numbers)) ≤ 25 * l.number-index;
}

use Rattle.std.proofs.Common.{◌≡◌, ◌-◌, ◌*◌, ◌≤◌, length, take}
use Rattle.mg_bytes.specs.Bytes.{appended}
use Rattle.mg_heard.specs.Escaped.{escaped}
use Rattle.mg_heard.proofs.escaping.push_escaped.Given as goal

abbrev pub invariant-loop-byte : goal.invariant-loop-byte
invariant-loop-byte l = record {
  same : l.out ≡ appended l.initial.out (escaped (take l.byte-index l.text));
  room : 8 * (length l.text - l.byte-index) ≤ l.out.room;
}

use Rattle.std.proofs.Common.{◌≡◌, ◌*◌, ◌≤◌, length, map, take}
use Rattle.mg_bytes.specs.Bytes.{appended}
use Rattle.mg_core.specs.Run.{lines_for}
use Rattle.mg_core.specs.Step.{Packet}
use Rattle.mg_core.proofs.output.push_packets.Given as goal

abbrev pub invariant-loop-packet : goal.invariant-loop-packet
invariant-loop-packet l = record {
  value : l.out ≡ appended l.initial.out (lines_for (map Packet (take l.packet-index l.packets)));
  short : length (lines_for (map Packet (take l.packet-index l.packets))) ≤ 377 * l.packet-index;
}

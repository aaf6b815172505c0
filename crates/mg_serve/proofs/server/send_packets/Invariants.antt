use Rattle.std.proofs.Common.{◌≡◌, map, take}
use Rattle.mg_engine.specs.declared.datagram.Datagram.{Datagram}
use Rattle.mg_core.specs.Step.{Packet}
use Rattle.mg_ports.specs.Calls.{Grows}
use Rattle.mg_serve.specs.Session.{send_of}
use Rattle.mg_serve.proofs.server.send_packets.Given as goal

abbrev pub invariant-loop-packet : goal.invariant-loop-packet
invariant-loop-packet g l = record {
  logged : Grows (g.P.Ports.calls l.initial.ports) (g.P.Ports.calls l.ports)
      (map (λ (packet : Datagram). send_of l.setup (Packet packet)) (take l.packet-index l.packets));
  journal : g.P.Ports.journal l.ports ≡ g.P.Ports.journal l.initial.ports;
}

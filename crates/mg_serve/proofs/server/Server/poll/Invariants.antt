use Rattle.std.proofs.Common.{◌≤◌}
use Rattle.std.specs.List.{range_with_len}
use Rattle.mg_ports.specs.Journaled.{ports_seen}
use Rattle.mg_serve.specs.Session.{Each, SocketTurn}
use Rattle.mg_serve.specs.aids.Outside.{LeadsByTrace, outside}
use Rattle.mg_serve.proofs.server.Server.poll.Given as goal

abbrev pub invariant-loop-socket : goal.invariant-loop-socket
invariant-loop-socket g l = record {
  few : l.self.journal.lacking ≤ l.initial.self.journal.lacking;
  taken : LeadsByTrace l.initial.self.core.state l.self.core.state
      (outside (ports_seen (g.P.Ports.calls l.initial.ports) (g.P.Ports.journal l.initial.ports))
      (g.W.Write.contents l.initial.writer) l.initial.self.printer l.initial.self.journal)
      (outside (ports_seen (g.P.Ports.calls l.ports) (g.P.Ports.journal l.ports)) (g.W.Write.contents l.writer)
      l.self.printer l.self.journal)
      (Each (SocketTurn l.setup) (range_with_len 0 l.socket));
}

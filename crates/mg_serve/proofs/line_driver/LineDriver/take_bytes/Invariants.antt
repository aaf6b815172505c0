use Rattle.std.proofs.Common.{◌≡◌, ◌≤◌, ◌+◌, ℕ, List, take, Ok, false}
use Rattle.mg_ports.specs.Journaled.{ports_seen}
use Rattle.mg_serve.specs.aids.Driving.{BytesTaken}
use Rattle.mg_serve.specs.aids.Outside.{LeadsByTrace, outside}
use Rattle.mg_serve.proofs.line_driver.LineDriver.take_bytes.Given as goal

abbrev pub invariant-loop-b : goal.invariant-loop-b
invariant-loop-b g l = record {
  whole : l.self.server.printer.has_failed ≡ false;
  few : l.self.server.journal.lacking ≤ l.initial.self.server.journal.lacking + l.b-index;
  taken : (partial : List ℕ) → l.initial.self.partial ≡ take 8 partial →
      LeadsByTrace l.initial.self.server.core.state l.self.server.core.state
      (outside (ports_seen (g.P.Ports.Ports.calls l.initial.ports) (g.P.Ports.Ports.journal l.initial.ports))
      (g.P.Output.Write.contents l.initial.writer) l.initial.self.server.printer l.initial.self.server.journal)
      (outside (ports_seen (g.P.Ports.Ports.calls l.ports) (g.P.Ports.Ports.journal l.ports)) (g.P.Output.Write.contents l.writer)
      l.self.server.printer l.self.server.journal)
      (BytesTaken l.initial.self.server.printer.form l.setup partial (take l.b-index l.bytes) l.self.partial (Ok false));
}

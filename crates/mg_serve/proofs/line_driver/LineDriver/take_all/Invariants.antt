use Rattle.std.proofs.Common.{◌≡◌, ◌≤◌, ◌*◌, Ok, false}
use Rattle.mg_ports.specs.Journaled.{ports_seen}
use Rattle.mg_serve.specs.aids.Outside.{LeadsByTrace, outside}
use Rattle.mg_serve.proofs.Running.{Read}
use Rattle.mg_serve.proofs.line_driver.LineDriver.take_all.Given as goal

abbrev pub invariant-loop : goal.invariant-loop
invariant-loop g l = record {
  whole : l.self.server.printer.has_failed ≡ false;
  few : l.self.server.journal.lacking ≤ l.counter * 4096;
  read : LeadsByTrace l.initial.self.server.core.state l.self.server.core.state
      (outside (ports_seen (g.P.Ports.Ports.calls l.initial.ports) (g.P.Ports.Ports.journal l.initial.ports))
      (g.P.Output.Write.contents l.initial.writer) l.initial.self.server.printer l.initial.self.server.journal)
      (outside (ports_seen (g.P.Ports.Ports.calls l.ports) (g.P.Ports.Ports.journal l.ports)) (g.P.Output.Write.contents l.writer)
      l.self.server.printer l.self.server.journal)
      (Read l.initial.self.server.printer.form l.setup (g.R.Read.remaining l.initial.reader)
      (g.R.Read.remaining l.reader) l.self.partial (Ok false));
}

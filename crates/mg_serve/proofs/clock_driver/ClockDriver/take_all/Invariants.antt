use Rattle.std.proofs.Common.{◌≡◌, ◌≤◌, ℕ, false}
use Rattle.mg_clock.specs.Ticks.{clock_seen}
use Rattle.mg_ports.specs.Journaled.{ports_seen}
use Rattle.mg_serve.specs.aids.Driving.{StepsDone}
use Rattle.mg_serve.specs.aids.Outside.{LeadsByTrace, outside}
use Rattle.mg_serve.proofs.clock_driver.ClockDriver.take_all.Given as goal

abbrev pub invariant-loop : goal.invariant-loop
invariant-loop g l = record {
  whole : l.self.server.printer.has_failed ≡ false;
  few : l.self.server.journal.lacking ≤ l.counter;
  done : (allowed : ℕ) → l.initial.self.schedule ≡ record { ticks = 0; allowed = allowed; messages = 0 } →
      LeadsByTrace l.initial.self.server.core.state l.self.server.core.state
      (outside (ports_seen (g.P.Ports.Ports.calls l.initial.ports) (g.P.Ports.Ports.journal l.initial.ports))
      (g.P.Output.Write.contents l.initial.writer) l.initial.self.server.printer l.initial.self.server.journal)
      (outside (ports_seen (g.P.Ports.Ports.calls l.ports) (g.P.Ports.Ports.journal l.ports))
      (g.P.Output.Write.contents l.writer) l.self.server.printer l.self.server.journal)
      (StepsDone l.setup (record { ticks = 0; allowed = allowed; messages = 0 }) l.counter
      (clock_seen (g.K.Watch.readings l.initial.watch) (g.K.Watch.waits l.initial.watch))
      (clock_seen (g.K.Watch.readings l.watch) (g.K.Watch.waits l.watch)) l.self.schedule);
}

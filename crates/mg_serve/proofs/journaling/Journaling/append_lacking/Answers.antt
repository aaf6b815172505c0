use Rattle.mg_ports.specs.Journaled.{ports_seen}
use Rattle.mg_serve.proofs.Appending.{nothing_appended, ticks_then}
use Rattle.mg_serve.proofs.journaling.Journaling.append_lacking.Goals as goal

pub returns-clause-value : goal.returns-clause-value
returns-clause-value g c =
    let before = ports_seen (g.P.Ports.calls c.args.ports.now) (g.P.Ports.journal c.args.ports.now) in
    ticks_then c.append_ticks.result before before
    (ports_seen (g.P.Ports.calls c.append_ticks.new.ports) (g.P.Ports.journal c.append_ticks.new.ports))
    c.args.self.now c.args.self.now c.append_ticks.new.self (nothing_appended before c.args.self.now)
    c.append_ticks.ensures.value

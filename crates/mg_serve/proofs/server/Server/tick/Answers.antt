use Rattle.mg_ports.specs.Journaled.{ports_seen}
use Rattle.mg_serve.proofs.Steps.{tick_sent}
use Rattle.mg_serve.proofs.server.Server.tick.Goals as goal

pub returns-clause-value : goal.returns-clause-value
returns-clause-value g c =
    rw (c.report.ensures.core, c.report.ensures.printer, c.report.ensures.journal) (tick_sent c.args.setup.now
    c.args.timing c.args.self.now.core.state c.tick.new.self.state c.tick.new.self.outbox
    (ports_seen (g.P.Ports.calls c.args.ports.now) (g.P.Ports.journal c.args.ports.now))
    (ports_seen (g.P.Ports.calls c.begin_tick.new.self) (g.P.Ports.journal c.begin_tick.new.self))
    (ports_seen (g.P.Ports.calls c.send_packets.new.ports) (g.P.Ports.journal c.send_packets.new.ports))
    (ports_seen (g.P.Ports.calls c.end_tick.new.ports) (g.P.Ports.journal c.end_tick.new.ports))
    (ports_seen (g.P.Ports.calls c.renew_if_due.new.ports) (g.P.Ports.journal c.renew_if_due.new.ports))
    (g.W.Write.contents c.args.writer.now) (g.W.Write.contents c.tick-2.new.writer)
    c.args.self.now.printer c.tick-2.new.self c.args.self.now.journal c.end_tick.new.self c.renew_if_due.new.self
    c.tick.ensures.sent c.tick.ensures.next c.begin_tick.ensures.logged c.begin_tick.ensures.journal
    c.tick-2.ensures.value (rw c.outbox.ensures.value at c.send_packets.ensures.logged) c.send_packets.ensures.journal
    c.end_tick.ensures.value c.renew_if_due.ensures.value)

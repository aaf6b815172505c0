use Rattle.std.proofs.Common.{refl, arith}
use Rattle.std.proofs.lemmas.Result.{err_from_is_err_and}
use Rattle.mg_ports.specs.Journaled.{ports_seen}
use Rattle.mg_serve.specs.aids.Outside.{outside}
use Rattle.mg_serve.proofs.Clocking.{poll_fails, tick_fails, tick_taken}
use Rattle.mg_serve.proofs.clock_driver.ClockDriver.take_step.Goals as goal

pub returns-in_err-take_command-clause-value : goal.returns-in_err-take_command-clause-value
returns-in_err-take_command-clause-value g c =
    let p = err_from_is_err_and c.from_residual.result c.from_residual.ensures.1 in
    rw p.1 (poll_fails c.args.setup.now c.args.step p.0 c.args.self.now.server.core.state
    c.take_command.new.self.core.state
    (outside (ports_seen (g.P.Ports.Ports.calls c.args.ports.now) (g.P.Ports.Ports.journal c.args.ports.now))
    (g.P.Output.Write.contents c.args.writer.now) c.args.self.now.server.printer c.args.self.now.server.journal)
    (outside (ports_seen (g.P.Ports.Ports.calls c.take_command.new.ports) (g.P.Ports.Ports.journal c.take_command.new.ports))
    (g.P.Output.Write.contents c.take_command.new.writer) c.take_command.new.self.printer c.take_command.new.self.journal)
    c.requires.whole c.in_err-take_command.ensures.failed c.take_command.ensures.value)

pub returns-in_err-take_command-2-clause-value : goal.returns-in_err-take_command-2-clause-value
returns-in_err-take_command-2-clause-value g c =
    let p = err_from_is_err_and c.from_residual-in_err-take_command-2.result
    c.from_residual-in_err-take_command-2.ensures.1 in
    rw (p.1, c.in-Tick.is) (tick_fails c.args.setup.now c.in-Tick.timing p.0 c.args.self.now.server.core.state
    c.take_command.new.self.core.state c.take_command-2.new.self.core.state
    (outside (ports_seen (g.P.Ports.Ports.calls c.args.ports.now) (g.P.Ports.Ports.journal c.args.ports.now))
    (g.P.Output.Write.contents c.args.writer.now) c.args.self.now.server.printer c.args.self.now.server.journal)
    (outside (ports_seen (g.P.Ports.Ports.calls c.take_command.new.ports) (g.P.Ports.Ports.journal c.take_command.new.ports))
    (g.P.Output.Write.contents c.take_command.new.writer) c.take_command.new.self.printer c.take_command.new.self.journal)
    (outside (ports_seen (g.P.Ports.Ports.calls c.take_command-2.new.ports) (g.P.Ports.Ports.journal c.take_command-2.new.ports))
    (g.P.Output.Write.contents c.take_command-2.new.writer) c.take_command-2.new.self.printer c.take_command-2.new.self.journal)
    c.in_ok-take_command.ensures.whole c.in_err-take_command-2.ensures.failed c.take_command.ensures.value
    c.take_command-2.ensures.value)

pub returns-clause-value : goal.returns-clause-value
returns-clause-value g c =
    rw c.in-Tick.is (tick_taken c.args.self.now.server.printer.form c.args.setup.now c.in-Tick.timing c.args.self.now.server.core.state
    c.take_command.new.self.core.state c.take_command-2.new.self.core.state
    (outside (ports_seen (g.P.Ports.Ports.calls c.args.ports.now) (g.P.Ports.Ports.journal c.args.ports.now))
    (g.P.Output.Write.contents c.args.writer.now) c.args.self.now.server.printer c.args.self.now.server.journal)
    (outside (ports_seen (g.P.Ports.Ports.calls c.take_command.new.ports) (g.P.Ports.Ports.journal c.take_command.new.ports))
    (g.P.Output.Write.contents c.take_command.new.writer) c.take_command.new.self.printer c.take_command.new.self.journal)
    (outside (ports_seen (g.P.Ports.Ports.calls c.take_command-2.new.ports) (g.P.Ports.Ports.journal c.take_command-2.new.ports))
    (g.P.Output.Write.contents c.take_command-2.new.writer) c.take_command-2.new.self.printer c.take_command-2.new.self.journal)
    c.take_command.ensures.value c.take_command-2.ensures.value)

pub take_command-requires-2-clause-few : goal.take_command-requires-2-clause-few
take_command-requires-2-clause-few g c = omega (arith, c.take_command.ensures.poll refl, c.requires.few)

pub returns-in_err-take_command-2-clause-few : goal.returns-in_err-take_command-2-clause-few
returns-in_err-take_command-2-clause-few g c = omega (arith, c.take_command.ensures.poll refl, c.take_command-2.ensures.few)

pub returns-clause-few : goal.returns-clause-few
returns-clause-few g c = omega (arith, c.take_command.ensures.poll refl, c.take_command-2.ensures.few)

use Rattle.std.proofs.Common.{◌≡◌, ◌≢◌, length, ap, arith}
use Rattle.mg_ports.specs.Journaled.{ports_seen}
use Rattle.mg_serve.specs.Lines.{line_command}
use Rattle.mg_serve.specs.Session.{Performs}
use Rattle.mg_serve.specs.aids.Driving.{Finished}
use Rattle.mg_serve.specs.aids.Outside.{outside}
use Rattle.mg_serve.proofs.Taking.{takes_none, takes_as}
use Rattle.mg_serve.proofs.Steps.{finished_none, finished_some}
use Rattle.mg_serve.proofs.line_driver.LineDriver.finish.Goals as goal

pub returns-then-is_empty-clause-value : goal.returns-then-is_empty-clause-value
returns-then-is_empty-clause-value g c =
    let seen = c.as_slice-line.ensures.value in
    let none : length c.args.self.now.partial ≡ 0 = grind (arith, ap length seen) in
    takes_none c.args.self.now.server.core.state (outside (ports_seen (g.P.Ports.Ports.calls c.args.ports.now) (g.P.Ports.Ports.journal c.args.ports.now))
    (g.P.Output.Write.contents c.args.writer.now) c.args.self.now.server.printer c.args.self.now.server.journal)
    (Finished c.args.setup.now c.args.self.now.partial)
    (λ w. finished_none c.args.setup.now c.args.self.now.partial w none)

pub returns-clause-value : goal.returns-clause-value
returns-clause-value g c =
    let seen = c.as_slice-line.ensures.value in
    let setup = c.args.setup.now in
    let some : length c.args.self.now.partial ≢ 0 = grind (arith, ap length seen) in
    takes_as c.args.self.now.server.core.state c.take_command.new.self.core.state (outside (ports_seen (g.P.Ports.Ports.calls c.args.ports.now) (g.P.Ports.Ports.journal c.args.ports.now))
    (g.P.Output.Write.contents c.args.writer.now) c.args.self.now.server.printer c.args.self.now.server.journal)
    (outside (ports_seen (g.P.Ports.Ports.calls c.take_command.new.ports) (g.P.Ports.Ports.journal c.take_command.new.ports))
    (g.P.Output.Write.contents c.take_command.new.writer) c.take_command.new.self.printer c.take_command.new.self.journal)
    (Performs setup (line_command c.args.self.now.partial)) (Finished setup c.args.self.now.partial)
    (rw seen at (rw c.of_line-command.ensures.value at c.take_command.ensures.value))
    (λ w next p h. finished_some setup c.args.self.now.partial w next p some h)

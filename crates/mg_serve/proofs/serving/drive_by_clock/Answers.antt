use Rattle.std.proofs.Common.{◌∙◌}
use Rattle.std.specs.Option.{option_map}
use Rattle.mg_clock.specs.Ticks.{clock_seen}
use Rattle.mg_ports.specs.Journaled.{ports_seen}
use Rattle.mg_serve.specs.aids.Outside.{outside}
use Rattle.mg_serve.proofs.WholeRuns.{no_memory_by_clock, not_opened_by_clock, served_by_clock}
use Rattle.mg_serve.proofs.serving.drive_by_clock.Goals as goal

pub returns-in_default-clause-session : goal.returns-in_default-clause-session
returns-in_default-clause-session g c allowed is w stands =
    no_memory_by_clock c.args.terms.now.setup.now w (option_map (λ title. title.now) c.args.terms.now.title) allowed
    (clock_seen (g.K.Watch.readings c.args.watch.now) (g.K.Watch.waits c.args.watch.now))
    (g.K.Watch.Fails c.args.watch.now)
    (ports_seen (g.P.Ports.Ports.calls c.args.ports.now) (g.P.Ports.Ports.journal c.args.ports.now))
    (g.P.Output.Write.contents c.args.writer.now)

pub returns-in_default-open-clause-session : goal.returns-in_default-open-clause-session
returns-in_default-open-clause-session g c allowed is w stands =
    not_opened_by_clock c.args.terms.now.setup.now w (option_map (λ title. title.now) c.args.terms.now.title)
    allowed
    (clock_seen (g.K.Watch.readings c.args.watch.now) (g.K.Watch.waits c.args.watch.now))
    (g.K.Watch.Fails c.args.watch.now)
    (ports_seen (g.P.Ports.Ports.calls c.args.ports.now) (g.P.Ports.Ports.journal c.args.ports.now))
    c.args.driver.now.server.printer c.open.new.self.printer
    (g.P.Output.Write.contents c.args.writer.now) (g.P.Output.Write.contents c.open.new.writer)
    (c.requires.printer, c.open.ensures.printed) c.in_default-open.ensures.failed

pub returns-clause-session : goal.returns-clause-session
returns-clause-session g c allowed is w stands =
    served_by_clock c.take_all.result c.args.terms.now.setup.now w (option_map (λ title. title.now) c.args.terms.now.title)
    allowed
    (clock_seen (g.K.Watch.readings c.args.watch.now) (g.K.Watch.waits c.args.watch.now))
    (clock_seen (g.K.Watch.readings c.take_all.new.watch) (g.K.Watch.waits c.take_all.new.watch))
    (g.K.Watch.Fails c.take_all.new.watch)
    c.args.driver.now.server.core.state c.take_all.new.self.server.core.state
    c.args.driver.now.server.printer (g.P.Output.Write.contents c.args.writer.now)
    (outside (ports_seen (g.P.Ports.Ports.calls c.args.ports.now) (g.P.Ports.Ports.journal c.args.ports.now))
    (g.P.Output.Write.contents c.open.new.writer) c.open.new.self.printer c.open.new.self.journal)
    (outside (ports_seen (g.P.Ports.Ports.calls c.take_all.new.ports) (g.P.Ports.Ports.journal c.take_all.new.ports))
    (g.P.Output.Write.contents c.take_all.new.writer) c.take_all.new.self.server.printer c.take_all.new.self.server.journal)
    stands (c.open.ensures.journal ∙ c.requires.journal) (c.requires.printer, c.open.ensures.printed)
    c.take_all.ensures.ends (rw c.open.ensures.core at c.take_all.ensures.value allowed is)

use Rattle.std.proofs.Common.{◌∙◌}
use Rattle.std.specs.Option.{option_map}
use Rattle.std.proofs.lemmas.Result.{err_from_is_err_and}
use Rattle.mg_ports.specs.Journaled.{ports_seen}
use Rattle.mg_serve.specs.aids.Outside.{outside}
use Rattle.mg_serve.proofs.WholeRuns.{no_memory, not_opened, served_ok, served_err}
use Rattle.mg_serve.proofs.serving.drive.Goals as goal

pub returns-in_default-clause-session : goal.returns-in_default-clause-session
returns-in_default-clause-session g c w stands =
    no_memory c.args.terms.now.setup.now w (option_map (λ title. title.now) c.args.terms.now.title)
    (g.R.Read.remaining c.args.reader.now)
    (ports_seen (g.P.Ports.Ports.calls c.args.ports.now) (g.P.Ports.Ports.journal c.args.ports.now))
    (g.P.Output.Write.contents c.args.writer.now)

pub returns-in_default-open-clause-session : goal.returns-in_default-open-clause-session
returns-in_default-open-clause-session g c w stands =
    not_opened c.args.terms.now.setup.now w (option_map (λ title. title.now) c.args.terms.now.title)
    (g.R.Read.remaining c.args.reader.now)
    (ports_seen (g.P.Ports.Ports.calls c.args.ports.now) (g.P.Ports.Ports.journal c.args.ports.now))
    c.args.driver.now.server.printer c.open.new.self.printer
    (g.P.Output.Write.contents c.args.writer.now) (g.P.Output.Write.contents c.open.new.writer)
    (c.requires.printer, c.open.ensures.printed)
    c.in_default-open.ensures.failed

pub returns-in_err-take_all-clause-session : goal.returns-in_err-take_all-clause-session
returns-in_err-take_all-clause-session g c w stands =
    let p = err_from_is_err_and c.from_residual.result c.from_residual.ensures.1 in
    rw (p.1, p.2) (served_err c.in_err-take_all.field-0.0 c.args.terms.now.setup.now w
    (option_map (λ title. title.now) c.args.terms.now.title)
    (g.R.Read.remaining c.args.reader.now) (g.R.Read.remaining c.take_all.new.reader)
    c.args.driver.now.server.core.state c.take_all.new.self.server.core.state
    c.args.driver.now.server.printer (g.P.Output.Write.contents c.args.writer.now)
    (outside (ports_seen (g.P.Ports.Ports.calls c.args.ports.now) (g.P.Ports.Ports.journal c.args.ports.now))
    (g.P.Output.Write.contents c.open.new.writer) c.open.new.self.printer c.open.new.self.journal)
    (outside (ports_seen (g.P.Ports.Ports.calls c.take_all.new.ports) (g.P.Ports.Ports.journal c.take_all.new.ports))
    (g.P.Output.Write.contents c.take_all.new.writer) c.take_all.new.self.server.printer c.take_all.new.self.server.journal)
    stands (c.open.ensures.journal ∙ c.requires.journal)
    (c.requires.printer, c.open.ensures.printed)
    c.in_err-take_all.ensures.ends (rw c.open.ensures.core at c.in_err-take_all.ensures.value))

pub returns-clause-session : goal.returns-clause-session
returns-clause-session g c w stands =
    served_ok c.counts.result c.args.terms.now.setup.now w (option_map (λ title. title.now) c.args.terms.now.title)
    (g.R.Read.remaining c.args.reader.now) (g.R.Read.remaining c.take_all.new.reader)
    c.args.driver.now.server.core.state c.take_all.new.self.server.core.state
    c.args.driver.now.server.printer (g.P.Output.Write.contents c.args.writer.now)
    (outside (ports_seen (g.P.Ports.Ports.calls c.args.ports.now) (g.P.Ports.Ports.journal c.args.ports.now))
    (g.P.Output.Write.contents c.open.new.writer) c.open.new.self.printer c.open.new.self.journal)
    (outside (ports_seen (g.P.Ports.Ports.calls c.take_all.new.ports) (g.P.Ports.Ports.journal c.take_all.new.ports))
    (g.P.Output.Write.contents c.take_all.new.writer) c.take_all.new.self.server.printer c.take_all.new.self.server.journal)
    stands (c.open.ensures.journal ∙ c.requires.journal)
    (c.requires.printer, c.open.ensures.printed)
    c.in_ok-take_all.ensures.ends (rw c.open.ensures.core at c.in_ok-take_all.ensures.value) c.counts.ensures.events

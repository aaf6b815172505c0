use Rattle.std.specs.Option.{option_map}
use Rattle.mg_clock.specs.Ticks.{clock_seen}
use Rattle.mg_ports.specs.Journaled.{ports_seen}
use Rattle.mg_serve.proofs.WholeRuns.{no_memory_by_clock}
use Rattle.mg_serve.proofs.serving.serve_by_clock.Goals as goal

pub returns-in_default-clause-session : goal.returns-in_default-clause-session
returns-in_default-clause-session g c w stands =
    no_memory_by_clock c.args.start.setup.now w (option_map (λ title. title.now) c.args.start.title) c.args.timer.now.late
    (clock_seen (g.K.Watch.readings c.args.timer.now.watch) (g.K.Watch.waits c.args.timer.now.watch))
    (g.K.Watch.Fails c.args.timer.now.watch)
    (ports_seen (g.P.Ports.Ports.calls c.args.ports.now) (g.P.Ports.Ports.journal c.args.ports.now))
    (g.P.Output.Write.contents c.args.writer.now)

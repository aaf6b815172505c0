use Rattle.std.specs.Option.{option_map}
use Rattle.mg_ports.specs.Journaled.{ports_seen}
use Rattle.mg_serve.proofs.WholeRuns.{no_memory}
use Rattle.mg_serve.proofs.serving.serve.Goals as goal

pub returns-in_default-clause-session : goal.returns-in_default-clause-session
returns-in_default-clause-session g c w stands =
    no_memory c.args.start.setup.now w (option_map (λ title. title.now) c.args.start.title)
    (g.R.Read.remaining c.args.reader.now)
    (ports_seen (g.P.Ports.Ports.calls c.args.ports.now) (g.P.Ports.Ports.journal c.args.ports.now))
    (g.P.Output.Write.contents c.args.writer.now)

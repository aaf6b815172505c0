use Rattle.mg_engine.specs.declared.fault.StartFault.TheVariants as starts
use Rattle.mg_core.proofs.ScriptLemmas.{not_started}
use Rattle.mg_core.proofs.running.run_from.Goals as goal

pub returns-in_default-clause-script : goal.returns-in_default-clause-script
returns-in_default-clause-script g c base stands =
    not_started base c.args.shown (g.R.Read.remaining c.args.reader.now) (g.W.Write.contents c.args.writer.now)
    starts.NoMemory

use Rattle.std.proofs.lemmas.Result.{err_from_is_err_and}
use Rattle.mg_core.specs.World.{start_of}
use Rattle.mg_core.proofs.ScriptLemmas.{not_started}
use Rattle.mg_core.proofs.running.run.Goals as goal

pub returns-in_err-core-clause-script : goal.returns-in_err-core-clause-script
returns-in_err-core-clause-script g c =
    let p = err_from_is_err_and c.from_residual.result c.from_residual.ensures.1 in
    rw (p.1, p.2) (not_started (start_of c.args.config) c.args.shown (g.R.Read.remaining c.args.reader.now)
    (g.W.Write.contents c.args.writer.now) c.in_err-core.field-0.0)

pub returns-clause-script : goal.returns-clause-script
returns-clause-script g c =
    c.run_from.ensures.script (start_of c.args.config) c.in_ok-core.ensures.started.2

use Rattle.std.proofs.lemmas.Result.{err_from_is_err_and}
use Rattle.mg_core.proofs.ScriptLemmas.{not_bad, script_fault, script_done}
use Rattle.mg_core.proofs.running.run_whole.Goals as goal

pub returns-in_err-take_all-clause-script : goal.returns-in_err-take_all-clause-script
returns-in_err-take_all-clause-script g c base shown start =
    let p = err_from_is_err_and c.from_residual.result c.from_residual.ensures.1 in
    rw (p.1, p.2) (script_fault base shown (g.R.Read.remaining c.args.reader.now)
    (g.R.Read.remaining c.take_all.new.reader)
    c.take_all.new.self.runner.core.state c.take_all.new.self.lines c.take_all.new.self.runner.sent
    (g.W.Write.contents c.args.writer.now) (g.W.Write.contents c.take_all.new.writer) c.in_err-take_all.field-0.0
    (c.in_err-take_all.ensures.value shown base start))

pub returns-in_err-take_all-clause-good : goal.returns-in_err-take_all-clause-good
returns-in_err-take_all-clause-good g c =
    let p = err_from_is_err_and c.from_residual.result c.from_residual.ensures.1 in
    not_bad c.from_residual.result p.0 c.in_err-take_all.field-0.0 p.1 p.2

pub returns-clause-script : goal.returns-clause-script
returns-clause-script g c base shown start =
    script_done base shown (g.R.Read.remaining c.args.reader.now)
    (g.R.Read.remaining c.take_all.new.reader)
    c.take_all.new.self.runner.core.state c.take_all.new.self.lines c.take_all.new.self.runner.sent c.counts.result
    (g.W.Write.contents c.args.writer.now) (g.W.Write.contents c.take_all.new.writer)
    (c.in_ok-take_all.ensures.value shown base start) c.counts.ensures.lines
    c.counts.ensures.sent c.counts.ensures.events

use Rattle.std.proofs.lemmas.Result.{err_from_is_err_and}
use Rattle.mg_pacer.proofs.StepLemmas.{last_stops, last_written}
use Rattle.mg_pacer.proofs.lines.write_last.Goals as goal

pub returns-in_err-write_steps : goal.returns-in_err-write_steps
returns-in_err-write_steps g c =
    let p = err_from_is_err_and c.from_residual.result c.from_residual.ensures.1 in
    rw p.1 (record {
      value = last_stops c.args.polls c.args.from c.args.to _ _ c.in_err-write_steps.field-0.0
          c.in_err-write_steps.ensures.value;
    })

pub returns : goal.returns
returns g c = record {
  value = last_written c.args.polls c.args.from c.args.to _
      (g.W.Write.contents c.write_steps.new.output) _ _ c.write_whole.result c.in_ok-write_steps.ensures.value
      c.write_whole.ensures.value;
}

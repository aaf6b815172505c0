use Rattle.std.proofs.lemmas.Result.{err_from_is_err_and}
use Rattle.mg_pacer.proofs.StepLemmas.{step_written, stops_at}
use Rattle.mg_pacer.proofs.lines.write_steps.Goals as goal

pub returns-in_err-write_step : goal.returns-in_err-write_step
returns-in_err-write_step g c =
    let p = err_from_is_err_and c.from_residual.result c.from_residual.ensures.1 in
    rw p.1 (record {
      value = stops_at c.args.polls c.args.from c.loop-step.step c.args.to _
          (g.W.Write.contents c.loop-step.output) _ c.in_err-write_step.field-0.0 c.requires.some c.loop-step-test.true
          c.loop-step.invariant c.in_err-write_step.ensures.value;
    })

pub loop-step-preserved : goal.loop-step-preserved
loop-step-preserved g c = step_written c.args.polls c.args.from c.loop-step.step _
    (g.W.Write.contents c.loop-step.output) _ c.requires.some c.loop-step.invariant c.in_ok-write_step.ensures.value

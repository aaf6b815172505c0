use Rattle.std.proofs.Common.{◌++◌, ◌∙◌, Ok, Err, ap, refl}
use Rattle.std.proofs.lemmas.Result.{err_from_is_err_and}
use Rattle.mg_bytes.specs.Bytes.{Written}
use Rattle.mg_core.specs.declared.event.Event.TheVariants.{Control}
use Rattle.mg_core.specs.Run.{answer_line}
use Rattle.mg_core.proofs.LineLemmas.{silent_steps, answer_steps}
use Rattle.mg_core.proofs.line_runner.LineRunner.take_control.Goals as goal

pub returns-in_err-write_whole-in-Send : goal.returns-in_err-write_whole-in-Send
returns-in_err-write_whole-in-Send g c =
    let p = err_from_is_err_and c.from_residual.result c.from_residual.ensures.1 in
    let line =
    c.as_slice.ensures.value ∙ ap (λ (w : Written). w.text) c.push_answer.ensures.value
    ∙ ap (λ (w : Written). w.text ++ answer_line c.args.source c.answer.result.now) c.clear.ensures.value
    ∙ ap (answer_line c.args.source) c.answer.ensures.value in
    rw (p.1, p.2) (record {
      value = answer_steps c.args.source c.args.bytes.now c.control.new.self.answer c.as_slice.result.now
          c.args.self.now.core.state c.control.new.self.state c.args.self.now.sent c.args.self.now.sent
          (g.W.Write.contents c.args.writer.now) (g.W.Write.contents c.write_whole.new.writer)
          (Err c.in_err-write_whole-in-Send.field-0.0)
          (rw c.in-Send.is at c.in-Ok.ensures.answered) line c.in_err-write_whole-in-Send.ensures.value tt;
      watched = refl;
    })

pub returns-in-Silent : goal.returns-in-Silent
returns-in-Silent g c = record {
  value = silent_steps (Control c.args.source c.args.bytes.now)
      c.args.self.now.core.state c.control.new.self.state c.args.self.now.sent c.args.self.now.sent
      (g.W.Write.contents c.args.writer.now) refl (rw c.in-Silent.is at c.in-Ok.ensures.answered);
  watched = refl;
}

pub returns-in_ok-write_whole-in-Send : goal.returns-in_ok-write_whole-in-Send
returns-in_ok-write_whole-in-Send g c =
    let line =
    c.as_slice.ensures.value ∙ ap (λ (w : Written). w.text) c.push_answer.ensures.value
    ∙ ap (λ (w : Written). w.text ++ answer_line c.args.source c.answer.result.now) c.clear.ensures.value
    ∙ ap (answer_line c.args.source) c.answer.ensures.value in record {
      value = answer_steps c.args.source c.args.bytes.now c.control.new.self.answer c.as_slice.result.now
          c.args.self.now.core.state c.control.new.self.state c.args.self.now.sent _
          (g.W.Write.contents c.args.writer.now) (g.W.Write.contents c.write_whole.new.writer) (Ok tt)
          (rw c.in-Send.is at c.in-Ok.ensures.answered) line c.in_ok-write_whole-in-Send.ensures.value
          c.saturating_add-self.ensures;
      watched = refl;
    }

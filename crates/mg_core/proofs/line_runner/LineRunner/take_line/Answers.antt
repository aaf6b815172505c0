use Rattle.std.proofs.Common.{◌≡◌, Some, None, Ok, Err, ap, ◌∙◌}
use Rattle.std.proofs.lemmas.Result.{err_from_is_err_and}
use Rattle.mg_core.specs.declared.fault.LineFault.{LineFault}
use Rattle.mg_core.specs.Script.{event_of}
use Rattle.mg_core.proofs.LineLemmas.{an_event_or_none, line_steps, comment_ran, same_steps}
use Rattle.mg_core.proofs.RunLemmas.{Followed}
use Rattle.mg_core.proofs.line_runner.LineRunner.take_line.Goals as goal

pub returns-in_err-take_event-in-Ok-Some : goal.returns-in_err-take_event-in-Ok-Some
returns-in_err-take_event-in-Ok-Some g c =
    let p = err_from_is_err_and c.from_residual.result c.from_residual.ensures.1 in
    let is : event_of c.args.line.now ≡ Some (Some c.in-Ok-Some.event) = c.in-Ok-Some.ensures ∙
    ap an_event_or_none c.in-Ok-Some.field-0-is in
    rw (p.1, p.2) (record {
      value = λ shown. line_steps shown c.args.number c.args.line.now c.in-Ok-Some.event
          (Followed shown c.args.self.now) (Followed shown c.take_event.new.self) c.args.self.now.sent
          c.take_event.new.self.sent
          (g.W.Write.contents c.args.writer.now) (g.W.Write.contents c.take_event.new.writer)
          (Err c.in_err-take_event-in-Ok-Some.field-0.0) is (c.in_err-take_event-in-Ok-Some.ensures.value shown);
    })

pub returns-in-Ok-None : goal.returns-in-Ok-None
returns-in-Ok-None g c =
    let is : event_of c.args.line.now ≡ Some None = c.in-Ok-None.ensures ∙
    ap an_event_or_none c.in-Ok-None.field-0-is in record {
      value = λ shown. same_steps {E = LineFault} (Followed shown c.args.self.now) (Ok tt) _
          (λ w. comment_ran shown c.args.number c.args.line.now w c.args.self.now.sent
          (g.W.Write.contents c.args.writer.now) is);
    }

pub returns-in_ok-take_event-in-Ok-Some : goal.returns-in_ok-take_event-in-Ok-Some
returns-in_ok-take_event-in-Ok-Some g c =
    let is : event_of c.args.line.now ≡ Some (Some c.in-Ok-Some.event) = c.in-Ok-Some.ensures ∙
    ap an_event_or_none c.in-Ok-Some.field-0-is in record {
      value = λ shown. line_steps shown c.args.number c.args.line.now c.in-Ok-Some.event
          (Followed shown c.args.self.now) (Followed shown c.take_event.new.self) c.args.self.now.sent
          c.take_event.new.self.sent
          (g.W.Write.contents c.args.writer.now) (g.W.Write.contents c.take_event.new.writer) (Ok tt) is
          (c.in_ok-take_event-in-Ok-Some.ensures.value shown);
    }

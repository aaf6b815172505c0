use Rattle.std.proofs.Common.{ap, refl}
use Rattle.mg_bytes.specs.Bytes.{Written}
use Rattle.mg_text.specs.declared.body.MessageItem.TheVariants.{Request}
use Rattle.mg_core.specs.Work.{edits_by_item}
use Rattle.mg_core.proofs.ReplyLemmas.{request_again, request_new}
use Rattle.mg_core.proofs.WorkLemmas.{nothing_paid, request_paid}
use Rattle.mg_core.proofs.answering.put_request.Goals as goal

pub returns-in-Some-clause-ran : goal.returns-in-Some-clause-ran
returns-in-Some-clause-ran c = request_again c.args.source.now c.args.sender.now c.args.request.now c.args.state.now
    c.args.answer.now.text c.in-Some.text.now c.push.new.self.text c.in-Some.ensures.value
    (ap (λ (w : Written). w.text) c.push.ensures.value)

pub returns-in-None-clause-ran : goal.returns-in-None-clause-ran
returns-in-None-clause-ran c = request_new c.args.source.now c.args.sender.now c.args.request.now c.args.state.now
    c.run_request.new.state c.args.answer.now.text c.run_request.new.answer.text c.in-None.ensures.value
    c.run_request.ensures.ran

pub returns-in-Some-clause-work : goal.returns-in-Some-clause-work
returns-in-Some-clause-work c = nothing_paid c.args.state.now c.args.state.now
    (edits_by_item c.args.source.now c.args.sender.now (Request c.args.request.now)) refl

pub returns-in-None-clause-work : goal.returns-in-None-clause-work
returns-in-None-clause-work c = request_paid c.args.source.now c.args.sender.now c.args.request.now c.args.state.now
    c.run_request.new.state c.in-None.ensures.value c.run_request.ensures.work

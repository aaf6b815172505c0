use Rattle.std.proofs.Common.{List, refl, ap, ◌∙◌}
use Rattle.mg_text.specs.declared.body.Range.{Range}
use Rattle.mg_core.specs.declared.state.CoreState.{CoreState}
use Rattle.mg_core.specs.Answer.{without_ranges}
use Rattle.mg_bytes.specs.Bytes.{Written}
use Rattle.mg_core.specs.Work.{edits_by_item}
use Rattle.mg_core.proofs.ReplyLemmas.{request_put, ranges_taken}
use Rattle.mg_core.proofs.WorkLemmas.{nothing_paid}
use Rattle.mg_core.proofs.answering.put_item.Goals as goal

pub returns-in-Request-clause-ran : goal.returns-in-Request-clause-ran
returns-in-Request-clause-ran c =
    let before = ap (λ (w : Written). w.text) c.push.ensures.value in
    rw c.in-Request.is (request_put c.args.source.now c.args.sender.now c.args.mark.now c.in-Request.request
    c.args.state.now c.put_request.new.state c.args.answer.now.text c.put_request.new.answer.text
    (rw before at c.put_request.ensures.ran))

pub returns-in-Acknowledgement-clause-ran : goal.returns-in-Acknowledgement-clause-ran
returns-in-Acknowledgement-clause-ran c =
    let state : CoreState = record {
      engine = c.args.state.now.engine;
      kept = c.acknowledge.new.kept;
      counts = c.args.state.now.counts;
    } in
    let taken = c.acknowledge.ensures.value ∙
    ap (λ (xs : List Range). without_ranges c.args.sender.now xs c.args.state.now.kept) c.as_slice.ensures.value in
    rw c.in-Acknowledgement.is (ranges_taken c.args.source.now c.args.sender.now c.args.mark.now
    c.in-Acknowledgement.ranges c.args.state.now state c.args.answer.now.text refl refl taken)

pub returns-in-Request-clause-work : goal.returns-in-Request-clause-work
returns-in-Request-clause-work c = rw c.in-Request.is c.put_request.ensures.work

pub returns-in-Acknowledgement-clause-work : goal.returns-in-Acknowledgement-clause-work
returns-in-Acknowledgement-clause-work c =
    let state : CoreState = record {
      engine = c.args.state.now.engine;
      kept = c.acknowledge.new.kept;
      counts = c.args.state.now.counts;
    } in
    nothing_paid c.args.state.now state (edits_by_item c.args.source.now c.args.sender.now c.args.item.now) refl

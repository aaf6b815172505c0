use Rattle.std.proofs.Common.{◌∙◌, [], ◌∷◌, ap, arith}
use Rattle.mg_text.specs.declared.body.MessageItem.{MessageItem}
use Rattle.mg_text.specs.Message.{requests_in}
use Rattle.mg_core.specs.Answer.{replied_to}
use Rattle.mg_core.specs.Work.{edits_by_items}
use Rattle.mg_core.proofs.WorkLemmas.{one_more, all_paid}
use Rattle.mg_core.proofs.ReplyLemmas.{items_more, items_end, requests_from}
use Rattle.mg_core.proofs.answering.put_replies.Goals as goal

pub loop-item-preserved : goal.loop-item-preserved
loop-item-preserved c =
    let one = ap (λ (x : MessageItem). requests_in (x ∷ [])) c.item-item.is in record {
      ran = items_more c.args.source.now c.args.sender.now c.loop-item.mark.now c.put_item-mark.result.now
          c.args.items.now c.loop-item.item-index c.item-item.result c.item-item.result c.args.state.now
          c.loop-item.state c.put_item-mark.new.state c.args.answer.now.text c.loop-item.answer.text
          c.put_item-mark.new.answer.text (replied_to c.args.source.now c.args.sender.now [] c.args.items.now)
          c.loop-item-test.true c.item-item.is c.put_item-mark.ensures.mark c.loop-item.invariant.ran
          c.put_item-mark.ensures.ran;
      paid = one_more c.args.source.now c.args.sender.now c.loop-item.mark.now c.args.items.now c.loop-item.item-index
          c.item-item.result c.item-item.result c.args.state.now c.loop-item.state c.put_item-mark.new.state
          c.loop-item.answer.text c.put_item-mark.new.answer.text
          (edits_by_items c.args.source.now c.args.sender.now c.args.items.now) c.loop-item-test.true c.item-item.is
          c.loop-item.invariant.paid c.put_item-mark.ensures.ran c.put_item-mark.ensures.work;
      room = omega (
        arith,
        one,
        requests_from c.args.items.now c.loop-item.item-index c.item-item.result
            c.loop-item-test.true,
        c.put_item-mark.ensures.short,
        c.put_item-mark.ensures.total,
        c.loop-item.invariant.room,
      );
      total = c.put_item-mark.ensures.total ∙ c.loop-item.invariant.total;
    }

pub returns-clause-ran : goal.returns-clause-ran
returns-clause-ran c = items_end c.args.source.now c.args.sender.now c.loop-item.mark.now c.args.items.now
    c.loop-item.item-index c.args.state.now c.loop-item.state c.args.answer.now.text c.loop-item.answer.text
    (replied_to c.args.source.now c.args.sender.now [] c.args.items.now) c.loop-item-test.false
    c.loop-item.invariant.ran

pub returns-clause-work : goal.returns-clause-work
returns-clause-work c = all_paid c.args.source.now c.args.sender.now c.args.items.now c.loop-item.item-index
    c.args.state.now c.loop-item.state (edits_by_items c.args.source.now c.args.sender.now c.args.items.now)
    c.loop-item-test.false c.loop-item.invariant.paid

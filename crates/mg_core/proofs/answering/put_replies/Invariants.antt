use Rattle.std.proofs.Common.{◌≡◌, ◌+◌, ◌*◌, ◌≤◌, [], drop, length}
use Rattle.mg_text.specs.Message.{requests_in}
use Rattle.mg_core.specs.Answer.{replied_to}
use Rattle.mg_core.specs.Work.{edits_by_items}
use Rattle.mg_core.proofs.ReplyLemmas.{IsUnderWay}
use Rattle.mg_core.proofs.WorkLemmas.{IsPaidSoFar}
use Rattle.mg_core.proofs.answering.put_replies.Given as goal

abbrev pub invariant-loop-item : goal.invariant-loop-item
invariant-loop-item l = record {
  ran : IsUnderWay l.initial.state l.state l.initial.answer.text l.answer.text
      (replied_to l.source l.sender [] l.items) (replied_to l.source l.sender l.mark (drop l.item-index l.items));
  paid : IsPaidSoFar l.initial.state l.state (edits_by_items l.source l.sender l.items)
      (edits_by_items l.source l.sender (drop l.item-index l.items));
  room : 16001 * requests_in (drop l.item-index l.items) + length l.mark ≤ 1 + l.answer.room;
  total : l.answer.room + length l.answer.text ≡ l.initial.answer.room + length l.initial.answer.text;
}

use Rattle.std.proofs.Common.{◌&&◌, ◌+◌, ◌∷◌, [], ◌∙◌, ap, sym, drop, get_or}
use Rattle.mg_reply.specs.aids.Draft.{drafted}
use Rattle.mg_reply.specs.Listed.{listed}
use Rattle.mg_reply.specs.aids.Marks.{has_no_part, mark_of}
use Rattle.mg_reply.specs.Entries.{texts_of}
use Rattle.mg_reply.proofs.ListedLemmas.{all_step, first_step, all_end}
use Rattle.mg_reply.proofs.action_writing.put_all.Goals as goal

pub loop-item-preserved : goal.loop-item-preserved
loop-item-preserved c =
    let xs = c.args.items.now in
    let kind = c.args.kind in
    let i = c.loop-item.item-index in
    let x = c.item-item.result in
    let first = c.loop-item.is_next_first in
    let opening = c.args.opening.now in
    let rest = texts_of kind (drop (i + 1) xs) in
    let is = c.item-item.is in
    let put = c.put_if_of-is_next_first.ensures.value ∙
    ap (λ y. drafted c.loop-item.draft (listed (mark_of opening first) (texts_of kind (y ∷ [])))) is in
    let next = c.put_if_of-is_next_first.ensures.first ∙ ap (λ y. first && has_no_part (texts_of kind (y ∷ []))) is in
    record {
      same =
          ap (λ b. drafted c.put_if_of-is_next_first.new.draft (listed (mark_of opening b) rest)) next
          ∙ ap (λ d. drafted d (listed (mark_of opening (first && has_no_part (texts_of kind (get_or xs i x ∷ []))))
          rest)) put
          ∙ all_step c.loop-item.draft opening first kind xs i x c.loop-item-test.true
          ∙ c.loop-item.invariant.same;
      first = ap (λ b. b && has_no_part rest) next ∙ first_step first kind xs i x c.loop-item-test.true ∙
          c.loop-item.invariant.first;
    }

pub returns-clause-value : goal.returns-clause-value
returns-clause-value c =
    c.put.ensures.value
    ∙ sym (all_end c.loop-item.draft (mark_of c.args.opening.now c.loop-item.is_next_first) c.args.kind
    c.args.items.now c.loop-item.item-index c.loop-item-test.false)
    ∙ c.loop-item.invariant.same

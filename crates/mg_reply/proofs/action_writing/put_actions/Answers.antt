use Rattle.std.proofs.Common.{◌++◌, ◌∙◌, ◌+◌, [], take, drop, sym, ap, arith, codes}
use Rattle.mg_reply.specs.aids.Draft.{drafted}
use Rattle.mg_reply.specs.aids.Room.{action_id}
use Rattle.mg_reply.specs.Written.{action_text, actions_text}
use Rattle.mg_reply.proofs.ActionLemmas.{continues, action_ends, all_done, none_pending}
use Rattle.mg_reply.proofs.action_writing.put_actions.Goals as goal

pub loop-i-preserved-in_default : goal.loop-i-preserved-in_default
loop-i-preserved-in_default c =
    let item = ap action_id c.index-items-i.is in
    let none = sym item ∙ sym c.action_id.ensures.value ∙ c.in_default.is in
    record {
      after = omega arith;
      same = continues c.loop-i.draft c.loop-i.mark.now c.args.items.now c.loop-i.from c.loop-i.i c.index-items-i.result
          c.loop-i.invariant.after c.loop-i-test.true none ∙ c.loop-i.invariant.same;
    }

pub loop-i-preserved : goal.loop-i-preserved
loop-i-preserved c =
    let xs = c.args.items.now in
    let i = c.loop-i.i in
    let item = ap action_id c.index-items-i.is in
    let ends = sym item ∙ sym c.action_id.ensures.value ∙ c.in-Some.is in
    let pending = c.split_at-in-loop-i.ensures.back ∙ ap (drop c.loop-i.from) c.split_at.ensures.front in
    let put = c.put_action.ensures.value ∙ ap
    (λ p. drafted c.loop-i.draft (c.loop-i.mark.now ++ action_text c.in-Some.id p)) pending in
    record {
      after = omega arith;
      same =
          ap (λ p. drafted c.put_action.new.draft (actions_text (codes ",") p (drop (i + 1) xs))) (none_pending xs i)
          ∙ ap (λ d. drafted d (actions_text (codes ",") [] (drop (i + 1) xs))) put
          ∙ action_ends c.loop-i.draft c.loop-i.mark.now xs c.loop-i.from i c.index-items-i.result c.in-Some.id
          c.loop-i-test.true ends
          ∙ c.loop-i.invariant.same;
    }

pub returns : goal.returns
returns c = record {
  value = c.put.ensures.value ∙
      sym (all_done c.loop-i.draft c.loop-i.mark.now (drop c.loop-i.from (take c.loop-i.i c.args.items.now))
      c.args.items.now c.loop-i.i c.loop-i-test.false) ∙ c.loop-i.invariant.same;
}

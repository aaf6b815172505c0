use Rattle.std.proofs.Common.{sym, ap, ◌∙◌}
use Rattle.std.proofs.lemmas.Bool.{and_parts}
use Rattle.mg_words.specs.declared.context_id.ContextId.{ContextId}
use Rattle.mg_reply.specs.declared.item.Item.TheVariants as replies
use Rattle.mg_reply.specs.Reply.{after_put}
use Rattle.mg_commands.proofs.PropertySteps.{few_triples}
use Rattle.mg_commands.proofs.RunLemmas.{action_refused, action_stopped, action_finished}
use Rattle.mg_commands.proofs.transactions.try_action.Goals as goal
use Rattle.mg_commands.proofs.transactions.try_action.Goals.{then-were_done, else-were_done}

pub try_properties-is_done-requires : goal.try_properties-is_done-requires
try_properties-is_done-requires c = record {
  few = rw c.as_slice-properties.ensures.value
      (few_triples c.args.source.now c.args.action.now.properties (and_parts _ _ c.requires.proper).0);
}

pub returns-in-Some-clause-ran : goal.returns-in-Some-clause-ran
returns-in-Some-clause-ran c = action_refused c.args.source.now c.args.action.now c.args.engine.now c.args.reply.now
    c.put.new.self c.put-in-Some.new.self c.in-Some.fault (sym c.action_fault.ensures.value ∙ c.in-Some.is)
    c.put.ensures.value c.put-in-Some.ensures.value

pub returns-clause-ran : goal.returns-clause-ran
returns-clause-ran c =
    let source = c.args.source.now in
    let action = c.args.action.now in
    let tried = c.try_commands-were_done in
    let none = sym c.action_fault.ensures.value ∙ c.in_default.is in
    let ran = rw (c.as_slice-commands.ensures.value, c.target_of.ensures.value) at tried.ensures.ran in
    let last = c.put-2.ensures.value ∙ ap (λ (id : ContextId). after_put c.if-were_done.reply (replies.Action id))
    c.id_of.ensures.value in
    elim c.if-were_done.branch [
      | then-were_done w ↦
          let tells = rw (c.as_slice-properties.ensures.value, sym w.engine-is, sym w.reply-is, sym w.is_done-is) at
          w.try_properties-is_done.ensures.represents in
          let still = rw (sym w.engine-is) at w.try_properties-is_done.ensures.work in
          action_finished source action c.args.engine.now tried.new.engine c.args.reply.now tried.new.reply
          tried.result.0 tried.result.1 none ran
          c.if-were_done.engine c.if-were_done.reply c.put-2.new.self c.if-were_done.is_done w.if-were_done.true tells
          still last
      | else-were_done w ↦
          action_stopped source action c.args.engine.now tried.new.engine c.args.reply.now tried.new.reply
          tried.result.0 tried.result.1 none ran
          c.if-were_done.engine c.if-were_done.reply c.put-2.new.self c.if-were_done.is_done w.if-were_done.false
          w.is_done-is w.engine-is w.reply-is last
    ]

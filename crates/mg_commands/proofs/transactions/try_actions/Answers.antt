use Rattle.mg_commands.specs.aids.Runs.{transaction_kept}
use Rattle.mg_commands.proofs.RunLemmas.{actions_go_on, actions_stop, actions_finish}
use Rattle.mg_commands.proofs.transactions.try_actions.Goals as goal

pub returns-then-not-try_action-clause-ran : goal.returns-then-not-try_action-clause-ran
returns-then-not-try_action-clause-ran c base =
    actions_stop c.args.source.now c.args.actions.now base (transaction_kept c.args.engine.now c.args.reply.now)
    (transaction_kept c.loop-action.engine c.loop-action.reply) c.loop-action.action-index
    (c.loop-action.invariant.ran base)
    c.action-item.result _ (transaction_kept c.try_action.new.engine c.try_action.new.reply) c.loop-action-test.true
    c.action-item.is (c.if-not-try_action.ensures.ran base)

pub loop-action-preserved : goal.loop-action-preserved
loop-action-preserved c = record {
  ran = λ base. actions_go_on c.args.source.now c.args.actions.now base
      (transaction_kept c.args.engine.now c.args.reply.now)
      (transaction_kept c.loop-action.engine c.loop-action.reply) c.loop-action.action-index
      (c.loop-action.invariant.ran base)
      c.action-item.result _ (transaction_kept c.try_action.new.engine c.try_action.new.reply) c.loop-action-test.true
      c.action-item.is (c.if-not-try_action.ensures.ran base);
  whole = λ _. c.try_action.ensures.whole;
}

pub returns-clause-ran : goal.returns-clause-ran
returns-clause-ran c base = actions_finish c.args.source.now c.args.actions.now base
    (transaction_kept c.args.engine.now c.args.reply.now) (transaction_kept c.loop-action.engine c.loop-action.reply)
    c.loop-action.action-index (c.loop-action.invariant.ran base) c.loop-action-test.false

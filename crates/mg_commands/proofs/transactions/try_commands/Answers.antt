use Rattle.std.proofs.Common.{◌≡◌, Bool, ◌||◌, ap, sym, ◌∙◌}
use Rattle.mg_commands.specs.aids.Runs.{action_kept}
use Rattle.mg_commands.proofs.RunLemmas.{commands_go_on, commands_stop, commands_finish}
use Rattle.mg_commands.proofs.transactions.try_commands.Goals as goal
use Rattle.mg_commands.proofs.transactions.try_commands.Goals.{then-command, else-command}

pub returns-then-not-continues : goal.returns-then-not-continues
returns-then-not-continues c =
    let is_done = c.try_command-is_done.result.1 in
    let is : c.if-command.continues ≡ (c.command-item.result.is_optional || is_done) = elim c.if-command.branch [
      | then-command w ↦ w.continues-is ∙ w.if-command.true ∙ ap (λ (b : Bool). b || is_done) (sym w.if-command.true)
      | else-command w ↦ w.continues-is ∙ ap (λ (b : Bool). b || is_done) (sym w.if-command.false)
    ] in
    record {
      ran = λ base. commands_stop c.args.source.now c.args.commands.now base
          (action_kept c.args.engine.now c.args.progress c.args.reply.now)
          (action_kept c.loop-command.engine c.loop-command.progress c.loop-command.reply)
          c.loop-command.command-index (c.loop-command.invariant.ran base)
          c.command-item.result _ (action_kept c.try_command-is_done.new.engine c.try_command-is_done.result.0
          c.try_command-is_done.new.reply) is_done c.loop-command-test.true c.command-item.is
          (sym is ∙ c.if-not-continues.true) (c.try_command-is_done.ensures.ran base);
    }

pub loop-command-preserved : goal.loop-command-preserved
loop-command-preserved c =
    let is_done = c.try_command-is_done.result.1 in
    let is : c.if-command.continues ≡ (c.command-item.result.is_optional || is_done) = elim c.if-command.branch [
      | then-command w ↦ w.continues-is ∙ w.if-command.true ∙ ap (λ (b : Bool). b || is_done) (sym w.if-command.true)
      | else-command w ↦ w.continues-is ∙ ap (λ (b : Bool). b || is_done) (sym w.if-command.false)
    ] in
    record {
      ran = λ base. commands_go_on c.args.source.now c.args.commands.now base
          (action_kept c.args.engine.now c.args.progress c.args.reply.now)
          (action_kept c.loop-command.engine c.loop-command.progress c.loop-command.reply)
          c.loop-command.command-index (c.loop-command.invariant.ran base)
          c.command-item.result _ (action_kept c.try_command-is_done.new.engine c.try_command-is_done.result.0
          c.try_command-is_done.new.reply) is_done c.loop-command-test.true c.command-item.is
          (sym is ∙ c.if-not-continues.false) (c.try_command-is_done.ensures.ran base);
    }

pub returns : goal.returns
returns c = record {
  ran = λ base. commands_finish c.args.source.now c.args.commands.now base
      (action_kept c.args.engine.now c.args.progress c.args.reply.now)
      (action_kept c.loop-command.engine c.loop-command.progress c.loop-command.reply) c.loop-command.command-index
      (c.loop-command.invariant.ran base) c.loop-command-test.false;
}

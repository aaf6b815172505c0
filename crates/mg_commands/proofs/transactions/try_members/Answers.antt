use Rattle.std.proofs.Common.{◌≡◌, Bool, ◌&&◌, refl, ap, sym, ◌∙◌}
use Rattle.mg_commands.specs.aids.Runs.{action_kept}
use Rattle.mg_commands.proofs.RunLemmas.{members_go_on, members_finish}
use Rattle.mg_commands.proofs.transactions.try_members.Goals as goal
use Rattle.mg_commands.proofs.transactions.try_members.Goals.{then-were_done, else-were_done}

pub loop-number-preserved : goal.loop-number-preserved
loop-number-preserved c =
    let is_done = c.try_name-is_done.result.1 in
    let all : c.if-were_done.were_done ≡ (c.loop-number.were_done && is_done) = elim c.if-were_done.branch [
      | then-were_done w ↦ w.were_done-is ∙ ap (λ (b : Bool). b && is_done) (sym w.if-were_done.true)
      | else-were_done w ↦ w.were_done-is ∙ w.if-were_done.false ∙
          ap (λ (b : Bool). b && is_done) (sym w.if-were_done.false)
    ] in
    record {
      ran = λ base. members_go_on c.args.source.now c.args.command.now c.args.parameters.now c.args.members.now base
          (action_kept c.args.engine.now c.args.progress c.args.reply.now)
          (action_kept c.loop-number.engine c.loop-number.progress c.loop-number.reply) c.loop-number.number-index
          c.loop-number.were_done (c.loop-number.invariant.ran base)
          _ 0 (action_kept c.try_name-is_done.new.engine c.try_name-is_done.result.0 c.try_name-is_done.new.reply)
          is_done c.if-were_done.were_done c.loop-number-test.true refl all (c.try_name-is_done.ensures.ran base);
    }

pub returns : goal.returns
returns c = record {
  ran = λ base. members_finish c.args.source.now c.args.command.now c.args.parameters.now c.args.members.now base
      (action_kept c.args.engine.now c.args.progress c.args.reply.now)
      (action_kept c.loop-number.engine c.loop-number.progress c.loop-number.reply) c.loop-number.number-index
      c.loop-number.were_done (c.loop-number.invariant.ran base) c.loop-number-test.false;
}

use Rattle.std.proofs.Common.{sym, ap, ◌∙◌}
use Rattle.mg_commands.specs.Name.{name_of}
use Rattle.mg_commands.specs.aids.Runs.{action_kept}
use Rattle.mg_commands.proofs.RunLemmas.{command_for_one, command_refused}
use Rattle.mg_commands.proofs.transactions.try_command.Goals as goal

pub returns-in_default : goal.returns-in_default
returns-in_default c = record {
  ran = command_for_one c.args.source.now c.args.command.now c.in-Ok.parameters c.name_of.result
      (action_kept c.args.engine.now c.args.progress c.args.reply.now)
      (action_kept c.try_name.new.engine c.try_name.result.0 c.try_name.new.reply) c.try_name.result.1
      (sym c.in-Ok.ensures.value) (sym (c.name_of.ensures.value ∙ ap name_of c.text.ensures.value))
      c.in_default.not-All c.try_name.ensures.ran;
}

pub returns-in-Err : goal.returns-in-Err
returns-in-Err c = record {
  ran = command_refused c.args.source.now c.args.command.now c.args.engine.now c.args.progress c.args.reply.now
      c.put_refusal.new.reply c.in-Err.number (sym c.in-Err.ensures.value) c.put_refusal.ensures.value;
}

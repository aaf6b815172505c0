use Rattle.mg_commands.proofs.RunLemmas.{all_refused}
use Rattle.mg_commands.proofs.transactions.try_all.Goals as goal

pub returns-in-Err : goal.returns-in-Err
returns-in-Err c = record {
  ran = all_refused c.args.source.now c.args.command.now c.args.parameters.now c.args.engine.now c.args.progress
      c.args.reply.now c.put_refusal.new.reply c.in-Err.number c.in-Err.ensures.value c.put_refusal.ensures.value;
}

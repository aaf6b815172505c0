use Rattle.std.proofs.Common.{ap, ◌∙◌, List, ℕ}
use Rattle.mg_reply.specs.declared.item.Item.TheVariants.{Command}
use Rattle.mg_reply.specs.declared.outcome.Outcome.TheVariants.{Failed}
use Rattle.mg_reply.specs.Reply.{after_put}
use Rattle.mg_commands.specs.Name.{written_as}
use Rattle.mg_commands.proofs.RunLemmas.{name_done, name_failed}
use Rattle.mg_commands.proofs.transactions.try_name.Goals as goal

pub returns-in-Ok : goal.returns-in-Ok
returns-in-Ok c = record {
  ran = name_done c.args.source.now c.args.command.now c.args.parameters.now c.args.name c.args.engine.now
      c.outcome.new.engine c.args.progress c.args.reply.now c.put.new.self c.in-Ok.served c.or.result
      c.in-Ok.ensures.represents c.outcome.ensures.work c.or.ensures c.put.ensures.value;
}

pub returns-in-Err : goal.returns-in-Err
returns-in-Err c = record {
  ran = name_failed c.args.source.now c.args.command.now c.args.parameters.now c.args.name c.args.engine.now
      c.outcome.new.engine c.args.progress c.args.reply.now c.put-in-Err.new.self c.in-Err.number
      c.in-Err.ensures.represents c.in-Err.ensures.refused
      (c.put-in-Err.ensures.value ∙ ap (λ (term : List ℕ). after_put c.args.reply.now
      (Command c.args.command.now.word term (Failed c.in-Err.number)))
      (c.written_as-term.ensures.value ∙ ap (λ (text : List ℕ). written_as text c.args.name) c.text.ensures.value));
}

use Rattle.std.proofs.Common.{sym, ◌∙◌}
use Rattle.mg_commands.proofs.FaultSteps.{stood_of_others}
use Rattle.mg_commands.proofs.repeats.appeared_in_control.Goals as goal

pub returns-else-is_single : goal.returns-else-is_single
returns-else-is_single c = record {
  value = c.if-is_single.false ∙ sym (stood_of_others c.args.source.now c.args.part.now c.args.before.now
      (sym c.if-is_single.ensures.value));
}

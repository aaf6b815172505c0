use Rattle.std.proofs.Common.{refl}
use Rattle.mg_options.proofs.CommandLemmas.{adds_rule}
use Rattle.mg_pacer.specs.Options.{command_line}
use Rattle.mg_pacer.proofs.options.command.Goals as goal

pub returns-clause-app : goal.returns-clause-app
unfolding command_line
returns-clause-app c =
    let ticks = adds_rule _ _ _ _ _ c.in_ok-arg.ensures c.program_command.ensures.app c.ticks_option.ensures.rule refl
    in
    adds_rule _ _ _ _ _ c.in_ok-command.ensures ticks c.polls_option.ensures.rule refl

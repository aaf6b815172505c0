use Rattle.std.proofs.Common.{◌∙◌, ap, refl}
use Rattle.clap.specs.Words.{rule_of}
use Rattle.mg_arguments.specs.Options.{options}
use Rattle.mg_options.proofs.CommandLemmas.{adds_rule}
use Rattle.mg_arguments.proofs.options.live.Goals as goal

pub returns-clause-app : goal.returns-clause-app
unfolding options
returns-clause-app c =
    let late = adds_rule _ _ _ _ _ c.in_ok-arg.ensures c.in_ok-on_sockets.ensures.app
    (ap rule_of c.help.ensures ∙ c.short_number.ensures.rule) refl in
    adds_rule _ _ _ _ _ c.in_ok-command.ensures late (ap rule_of c.help-2.ensures ∙ c.file_option.ensures.rule) refl

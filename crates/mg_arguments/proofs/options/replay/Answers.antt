use Rattle.std.proofs.Common.{◌∙◌, ap, refl}
use Rattle.clap.specs.Words.{rule_of}
use Rattle.mg_arguments.specs.Options.{options}
use Rattle.mg_options.proofs.CommandLemmas.{adds_rule}
use Rattle.mg_arguments.proofs.options.replay.Goals as goal

pub returns-clause-app : goal.returns-clause-app
unfolding options
returns-clause-app c = adds_rule _ _ _ _ _ c.in_ok-command.ensures c.in_ok-subcommand.ensures.app
    (ap rule_of c.help.ensures ∙ c.flag.ensures.rule) refl

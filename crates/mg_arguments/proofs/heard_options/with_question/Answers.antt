use Rattle.std.proofs.Common.{◌∙◌, ap, refl}
use Rattle.clap.specs.Words.{rule_of}
use Rattle.mg_arguments.specs.Options.{heard_options}
use Rattle.mg_options.proofs.CommandLemmas.{adds_rule}
use Rattle.mg_arguments.proofs.heard_options.with_question.Goals as goal

pub returns-clause-app : goal.returns-clause-app
unfolding heard_options
returns-clause-app c =
    let script = adds_rule _ _ _ _ _ c.in_ok-arg.ensures refl c.files_argument.ensures.rule refl in
    let listener = adds_rule _ _ _ _ _ c.in_ok-arg-2.ensures script
    (ap rule_of c.help.ensures ∙ c.option.ensures.rule) refl in
    let talker = adds_rule _ _ _ _ _ c.in_ok-arg-3.ensures listener
    (ap rule_of c.help-2.ensures ∙ c.option-2.ensures.rule) refl in
    adds_rule _ _ _ _ _ c.in_ok-command.ensures talker (ap rule_of c.help-3.ensures ∙ c.option-3.ensures.rule) refl

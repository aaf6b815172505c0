use Rattle.std.proofs.Common.{◌∙◌, ap, refl}
use Rattle.clap.specs.Words.{rule_of}
use Rattle.mg_arguments.specs.Options.{heard_options}
use Rattle.mg_options.proofs.CommandLemmas.{adds_rule}
use Rattle.mg_arguments.proofs.heard_options.with_period.Goals as goal

pub returns-clause-app : goal.returns-clause-app
unfolding heard_options
returns-clause-app c =
    let from = adds_rule _ _ _ _ _ c.in_ok-arg.ensures c.in_ok-with_question.ensures.app
    (ap rule_of c.help.ensures ∙ c.option.ensures.rule) refl in
    let until = adds_rule _ _ _ _ _ c.in_ok-arg-2.ensures from
    (ap rule_of c.help-2.ensures ∙ c.option-2.ensures.rule) refl in
    let audible = adds_rule _ _ _ _ _ c.in_ok-arg-3.ensures until
    (ap rule_of c.help-3.ensures ∙ c.flag.ensures.rule) refl in
    adds_rule _ _ _ _ _ c.in_ok-command.ensures audible c.never_option.ensures.rule refl

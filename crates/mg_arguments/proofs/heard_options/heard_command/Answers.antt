use Rattle.std.proofs.Common.{◌≡◌, ◌∙◌, ap, codes, fold, refl, take}
use Rattle.clap.specs.Words.{app_of, new_app, rule_of, with_rule}
use Rattle.clap.specs.Simple.{App, app_of_fields}
use Rattle.mg_arguments.specs.Options.{heard_options}
use Rattle.mg_options.proofs.CommandLemmas.{adds_rule}
use Rattle.mg_arguments.proofs.heard_options.heard_command.Goals as goal

pub returns-clause-app : goal.returns-clause-app
unfolding heard_options
returns-clause-app c =
    let start : app_of c.about.result ≡ new_app (codes "heard") = ap app_of_fields c.about.ensures ∙
    c.new.ensures.app in
    let period = c.in_ok-with_period.ensures.app ∙ ap (λ (a : App). fold with_rule a (take 8 heard_options)) start in
    let zone = adds_rule _ _ _ _ _ c.in_ok-arg.ensures period (ap rule_of c.help.ensures ∙ c.option.ensures.rule) refl in
    let names = adds_rule _ _ _ _ _ c.in_ok-arg-2.ensures zone
    (ap rule_of c.help-2.ensures ∙ c.option-2.ensures.rule) refl in
    let format = adds_rule _ _ _ _ _ c.in_ok-arg-3.ensures names
    (ap rule_of c.help-3.ensures ∙ c.option-3.ensures.rule) refl in
    adds_rule _ _ _ _ _ c.in_ok-command.ensures format (ap rule_of c.help-4.ensures ∙ c.flag.ensures.rule) refl

use Rattle.std.proofs.Common.{◌≡◌, ◌∙◌, ap, refl, codes}
use Rattle.clap.specs.Words.{app_of, new_app, rule_of}
use Rattle.clap.specs.Simple.{app_of_fields}
use Rattle.mg_options.proofs.CommandLemmas.{adds_rule}
use Rattle.mg_arguments.proofs.options.check.Goals as goal

pub returns-clause-app : goal.returns-clause-app
returns-clause-app c =
    let start : app_of c.about.result ≡ new_app (codes "check") = ap app_of_fields c.about.ensures ∙
    c.new.ensures.app in
    let gateway = adds_rule _ _ _ _ _ c.in_ok-arg.ensures start c.gateway_argument.ensures.rule refl in
    adds_rule _ _ _ _ _ c.in_ok-command.ensures gateway (ap rule_of c.help.ensures ∙ c.address_option.ensures.rule) refl

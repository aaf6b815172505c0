use Rattle.std.proofs.Common.{◌∙◌, ap, refl}
use Rattle.clap.specs.Words.{rule_of}
use Rattle.mg_arguments.specs.Options.{options}
use Rattle.mg_options.proofs.CommandLemmas.{adds_rule}
use Rattle.mg_arguments.proofs.options.with_options.Goals as goal

pub returns-clause-app : goal.returns-clause-app
unfolding options
returns-clause-app c =
    let address = adds_rule _ _ _ _ _ c.in_ok-arg.ensures refl
    (ap rule_of c.help.ensures ∙ c.address_option.ensures.rule) refl in
    let control_address = adds_rule _ _ _ _ _ c.in_ok-arg-2.ensures address
    (ap rule_of c.help-2.ensures ∙ c.address_option-2.ensures.rule) refl in
    let control_port = adds_rule _ _ _ _ _ c.in_ok-arg-3.ensures control_address
    (ap rule_of c.help-3.ensures ∙ c.short_number.ensures.rule) refl in
    let base_port = adds_rule _ _ _ _ _ c.in_ok-arg-4.ensures control_port
    (ap rule_of c.help-4.ensures ∙ c.short_number-2.ensures.rule) refl in
    let slots = adds_rule _ _ _ _ _ c.in_ok-arg-5.ensures base_port
    (ap rule_of c.help-5.ensures ∙ c.short_number-3.ensures.rule) refl in
    let first_termination = adds_rule _ _ _ _ _ c.in_ok-arg-6.ensures slots
    (ap rule_of c.help-6.ensures ∙ c.long_number.ensures.rule) refl in
    let first_context = adds_rule _ _ _ _ _ c.in_ok-arg-7.ensures first_termination
    (ap rule_of c.help-7.ensures ∙ c.long_number-2.ensures.rule) refl in
    let ssrc = adds_rule _ _ _ _ _ c.in_ok-arg-8.ensures first_context
    (ap rule_of c.help-8.ensures ∙ c.long_number-3.ensures.rule) refl in
    let sequence = adds_rule _ _ _ _ _ c.in_ok-arg-9.ensures ssrc
    (ap rule_of c.help-9.ensures ∙ c.short_number-4.ensures.rule) refl in
    adds_rule _ _ _ _ _ c.in_ok-command.ensures sequence (ap rule_of c.help-10.ensures ∙ c.long_number-4.ensures.rule)
    refl

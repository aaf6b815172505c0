use Rattle.std.proofs.Common.{◌∙◌, ap, refl}
use Rattle.clap.specs.Words.{rule_of}
use Rattle.mg_options.proofs.CommandLemmas.{adds_rule}
use Rattle.mg_arguments.proofs.options.on_sockets.Goals as goal

pub returns-clause-app : goal.returns-clause-app
returns-clause-app c =
    let bind_address = adds_rule _ _ _ _ _ c.in_ok-arg.ensures c.in_ok-subcommand.ensures.app
    (ap rule_of c.help.ensures ∙ c.addresses_option.ensures.rule) refl in
    let controller = adds_rule _ _ _ _ _ c.in_ok-arg-2.ensures bind_address
    (ap rule_of c.help-2.ensures ∙ c.addresses_option-2.ensures.rule) refl in
    let report = adds_rule _ _ _ _ _ c.in_ok-arg-3.ensures controller
    (ap rule_of c.help-3.ensures ∙ c.short_number.ensures.rule) refl in
    let record_rule = adds_rule _ _ _ _ _ c.in_ok-arg-4.ensures report (ap rule_of c.help-4.ensures ∙ c.flag.ensures.rule) refl in
    let symmetric = adds_rule _ _ _ _ _ c.in_ok-arg-5.ensures record_rule
    (ap rule_of c.help-5.ensures ∙ c.flag-2.ensures.rule) refl in
    let journal = adds_rule _ _ _ _ _ c.in_ok-arg-6.ensures symmetric
    (ap rule_of c.help-6.ensures ∙ c.file_option.ensures.rule) refl in
    let sync_rule = adds_rule _ _ _ _ _ c.in_ok-arg-7.ensures journal (ap rule_of c.help-7.ensures ∙ c.flag-3.ensures.rule)
    refl in
    let checkpoint = adds_rule _ _ _ _ _ c.in_ok-arg-8.ensures sync_rule
    (ap rule_of c.help-8.ensures ∙ c.long_number.ensures.rule) refl in
    let fence = adds_rule _ _ _ _ _ c.in_ok-arg-9.ensures checkpoint (ap rule_of c.help-9.ensures ∙ c.flag-4.ensures.rule)
    refl in
    let strict = adds_rule _ _ _ _ _ c.in_ok-arg-10.ensures fence (ap rule_of c.help-10.ensures ∙ c.flag-5.ensures.rule)
    refl in
    adds_rule _ _ _ _ _ c.in_ok-command.ensures strict (ap rule_of c.help-11.ensures ∙ c.long_number-2.ensures.rule) refl

use Rattle.std.proofs.Common.{◌≡◌, ◌∙◌, ap, refl, codes}
use Rattle.clap.specs.Words.{app_of, new_app}
use Rattle.clap.specs.Simple.{app_of_fields}
use Rattle.mg_options.proofs.CommandLemmas.{adds_rule}
use Rattle.mg_arguments.proofs.sealing_options.verify_command.Goals as goal

pub returns-clause-app : goal.returns-clause-app
returns-clause-app c =
    let start : app_of c.about.result ≡ new_app (codes "verify") = ap app_of_fields c.about.ensures ∙
    c.new.ensures.app in
    adds_rule _ _ _ _ _ c.in_ok-command.ensures start c.files_argument.ensures.rule refl

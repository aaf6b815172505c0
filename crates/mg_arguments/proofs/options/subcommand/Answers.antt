use Rattle.std.proofs.Common.{◌≡◌, ◌∙◌, ap}
use Rattle.std.proofs.lemmas.Result.{IfOk-weaker}
use Rattle.std.specs.Prelude.{fold}
use Rattle.clap.specs.Words.{App, app_of, new_app, with_rule}
use Rattle.clap.specs.Simple.{app_of_fields}
use Rattle.mg_arguments.specs.Options.{options}
use Rattle.mg_arguments.proofs.options.subcommand.Goals as goal

pub returns-clause-app : goal.returns-clause-app
returns-clause-app c =
    let start : app_of c.about.result ≡ new_app c.args.name.now = ap app_of_fields c.about.ensures ∙
    c.new.ensures.app in
    IfOk-weaker c.with_options.result _ _ (λ command is. is ∙ ap (λ (app : App). fold with_rule app options) start)
    c.with_options.ensures.app

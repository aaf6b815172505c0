use Rattle.std.proofs.Common.{◌∙◌, ap}
use Rattle.clap.specs.Simple.{app_of_fields}
use Rattle.mg_arguments.proofs.sealing_options.seal_command.Goals as goal

pub returns : goal.returns
returns c = record { app = ap app_of_fields c.about.ensures ∙ c.new.ensures.app }

use Rattle.std.proofs.Common.{[], ◌∷◌, Err, Ok}
use Rattle.clap.specs.Words.{found_of, rows_of}
use Rattle.clap.specs.declared.error.kind.ErrorKind.TheVariants.{ValueValidation}
use Rattle.mg_arguments.specs.Options.{audible_of}
use Rattle.mg_arguments.proofs.HeardOptionLemmas.{asks, refuses_request}
use Rattle.mg_arguments.proofs.heard_options.audible_in.Goals as goal

pub returns-in-Ok-audible_of-clause-run : goal.returns-in-Ok-audible_of-clause-run
returns-in-Ok-audible_of-clause-run c =
    asks audible_of (rows_of (found_of c.args.matches.now)) c.in-Ok.request (Ok _) c.in-Ok.ensures.request
    c.in-Ok-audible_of.ensures.run

pub returns-in-Err-audible_of-clause-refused : goal.returns-in-Err-audible_of-clause-refused
returns-in-Err-audible_of-clause-refused c =
    asks audible_of (rows_of (found_of c.args.matches.now)) c.in-Ok.request (Err (ValueValidation ∷ []))
    c.in-Ok.ensures.request c.in-Err-audible_of.ensures.refused

pub returns-in-Err-clause-refused : goal.returns-in-Err-clause-refused
returns-in-Err-clause-refused c =
    refuses_request audible_of (rows_of (found_of c.args.matches.now)) c.in-Err.fault c.in-Err.ensures.refused

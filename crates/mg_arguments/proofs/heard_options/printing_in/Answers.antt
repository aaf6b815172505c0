use Rattle.clap.specs.Words.{found_of, rows_of}
use Rattle.mg_arguments.proofs.HeardOptionLemmas.{printing_is, refuses_format, refuses_names, refuses_zone}
use Rattle.mg_arguments.proofs.InvocationLemmas.{at_error}
use Rattle.mg_arguments.proofs.heard_options.printing_in.Goals as goal

pub returns-in_err-format-clause-refused : goal.returns-in_err-format-clause-refused
returns-in_err-format-clause-refused c =
    at_error c.from_residual.result
    (refuses_format (rows_of (found_of c.args.matches.now)) c.in_err-format.ensures.refused)

pub returns-in_err-zone-clause-refused : goal.returns-in_err-zone-clause-refused
returns-in_err-zone-clause-refused c =
    at_error c.from_residual-in_err-zone.result
    (refuses_zone (rows_of (found_of c.args.matches.now)) c.in_ok-format.format c.in_ok-format.ensures.value
    c.in_err-zone.ensures.refused)

pub returns-in-Err-clause-refused : goal.returns-in-Err-clause-refused
returns-in-Err-clause-refused c =
    refuses_names (rows_of (found_of c.args.matches.now)) c.in_ok-format.format c.in_ok-zone.zone c.in-Err.fault
    c.in_ok-format.ensures.value c.in_ok-zone.ensures.value c.in-Err.ensures.value

pub returns-clause-value : goal.returns-clause-value
returns-clause-value c =
    printing_is (rows_of (found_of c.args.matches.now)) c.in_ok-format.format c.in_ok-zone.zone
    c.in-Ok.names c.in_ok-format.ensures.value c.in_ok-zone.ensures.value c.in-Ok.ensures.value

use Rattle.clap.specs.Words.{found_of, rows_of}
use Rattle.mg_arguments.proofs.InvocationLemmas.{at_error, refuses_options, refuses_service, run_is}
use Rattle.mg_arguments.proofs.options.gateway_in.Goals as goal

pub returns-in_err-given-clause-refused : goal.returns-in_err-given-clause-refused
returns-in_err-given-clause-refused c =
    at_error c.from_residual.result
    (refuses_options c.args.name.now (rows_of (found_of c.args.matches.now)) c.in_err-given.ensures.refused)

pub returns-in_err-service-clause-refused : goal.returns-in_err-service-clause-refused
returns-in_err-service-clause-refused c =
    at_error c.from_residual-in_err-service.result (refuses_service c.args.name.now
    (rows_of (found_of c.args.matches.now)) c.in_ok-given.given c.in_ok-given.ensures.options
    c.in_err-service.ensures.refused)

pub returns-clause-run : goal.returns-clause-run
returns-clause-run c =
    run_is c.args.name.now (rows_of (found_of c.args.matches.now)) c.in_ok-given.given _ _ _
    c.in_ok-given.ensures.options c.in_ok-service.ensures.service c.config.ensures.value c.run_of.ensures.value

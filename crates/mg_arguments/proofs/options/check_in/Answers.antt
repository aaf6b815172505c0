use Rattle.clap.specs.Words.{found_of, rows_of}
use Rattle.mg_arguments.proofs.InvocationLemmas.{check_is, refuses_gateway, refuses_source}
use Rattle.mg_arguments.proofs.options.check_in.Goals as goal

pub returns-in-Err-clause-refused : goal.returns-in-Err-clause-refused
returns-in-Err-clause-refused c =
    refuses_source (rows_of (found_of c.args.matches.now)) c.in-Err.fault c.in-Err.ensures.value

pub returns-in-Some-clause-run : goal.returns-in-Some-clause-run
returns-in-Some-clause-run c =
    check_is (rows_of (found_of c.args.matches.now)) c.in-Ok.address c.in-Some.gateway _ c.in-Ok.ensures.value
    c.in-Some.ensures.value c.unwrap_or.ensures

pub returns-in-None-clause-refused : goal.returns-in-None-clause-refused
returns-in-None-clause-refused c =
    refuses_gateway (rows_of (found_of c.args.matches.now)) c.in-Ok.address c.in-Ok.ensures.value
    c.in-None.ensures.value

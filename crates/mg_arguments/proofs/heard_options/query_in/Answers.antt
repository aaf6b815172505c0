use Rattle.clap.specs.Words.{found_of, rows_of}
use Rattle.mg_arguments.proofs.HeardOptionLemmas.{query_is, refuses_from, refuses_listener, refuses_talker, refuses_until}
use Rattle.mg_arguments.proofs.InvocationLemmas.{at_error}
use Rattle.mg_arguments.proofs.heard_options.query_in.Goals as goal

pub returns-clause-query : goal.returns-clause-query
returns-clause-query c =
    query_is (rows_of (found_of c.args.matches.now)) c.in_ok-listener.listener c.in_ok-talker.talker c.in_ok-from.from
    c.in_ok-until.until c.in_ok-listener.ensures.value c.in_ok-talker.ensures.value c.in_ok-from.ensures.value
    c.in_ok-until.ensures.value

pub returns-in_err-listener-clause-refused : goal.returns-in_err-listener-clause-refused
returns-in_err-listener-clause-refused c =
    at_error c.from_residual.result
    (refuses_listener (rows_of (found_of c.args.matches.now)) c.in_err-listener.ensures.refused)

pub returns-in_err-talker-clause-refused : goal.returns-in_err-talker-clause-refused
returns-in_err-talker-clause-refused c =
    at_error c.from_residual-in_err-talker.result
    (refuses_talker (rows_of (found_of c.args.matches.now)) c.in_ok-listener.listener c.in_ok-listener.ensures.value
    c.in_err-talker.ensures.refused)

pub returns-in_err-from-clause-refused : goal.returns-in_err-from-clause-refused
returns-in_err-from-clause-refused c =
    at_error c.from_residual-in_err-from.result
    (refuses_from (rows_of (found_of c.args.matches.now)) c.in_ok-listener.listener c.in_ok-talker.talker
    c.in_ok-listener.ensures.value c.in_ok-talker.ensures.value c.in_err-from.ensures.refused)

pub returns-in_err-until-clause-refused : goal.returns-in_err-until-clause-refused
returns-in_err-until-clause-refused c =
    at_error c.from_residual-in_err-until.result
    (refuses_until (rows_of (found_of c.args.matches.now)) c.in_ok-listener.listener c.in_ok-talker.talker
    c.in_ok-from.from c.in_ok-listener.ensures.value c.in_ok-talker.ensures.value c.in_ok-from.ensures.value
    c.in_err-until.ensures.refused)

use Rattle.clap.specs.Words.{found_of, rows_of}
use Rattle.mg_arguments.proofs.HeardOptionLemmas.{heard_is, refuses_file, refuses_later, refuses_printing, refuses_query, refuses_time}
use Rattle.mg_arguments.proofs.heard_options.request_in.Goals as goal

pub returns-in-Err-clause-refused : goal.returns-in-Err-clause-refused
returns-in-Err-clause-refused c = refuses_query (rows_of (found_of c.args.matches.now)) c.in-Err.ensures.refused

pub returns-in-Err-time_of-clause-refused : goal.returns-in-Err-time_of-clause-refused
returns-in-Err-time_of-clause-refused c =
    refuses_time (rows_of (found_of c.args.matches.now)) c.in-Ok.query c.in-Ok.ensures.query
    c.in-Err-time_of.ensures.refused

pub returns-in-Err-printing_in-clause-refused : goal.returns-in-Err-printing_in-clause-refused
returns-in-Err-printing_in-clause-refused c =
    refuses_printing (rows_of (found_of c.args.matches.now)) c.in-Ok.query c.in-Ok-time_of.at c.in-Ok.ensures.query
    c.in-Ok-time_of.ensures.value c.in-Err-printing_in.ensures.refused

pub returns-in-Err-file_of-clause-refused : goal.returns-in-Err-file_of-clause-refused
returns-in-Err-file_of-clause-refused c =
    refuses_file (rows_of (found_of c.args.matches.now)) c.in-Ok.query c.in-Ok-time_of.at c.in-Ok-printing_in.printing
    c.in-Err-file_of.fault c.in-Ok.ensures.query c.in-Ok-time_of.ensures.value c.in-Ok-printing_in.ensures.value
    c.in-Err-file_of.ensures.value

pub returns-in-Err-later_in-clause-refused : goal.returns-in-Err-later_in-clause-refused
returns-in-Err-later_in-clause-refused c =
    refuses_later (rows_of (found_of c.args.matches.now)) c.in-Ok.query c.in-Ok-time_of.at c.in-Ok-printing_in.printing
    c.in-Ok-file_of.file c.in-Err-later_in.fault c.in-Ok.ensures.query c.in-Ok-time_of.ensures.value
    c.in-Ok-printing_in.ensures.value c.in-Ok-file_of.ensures.value c.in-Err-later_in.ensures.value

pub returns-in-Ok-later_in-clause-request : goal.returns-in-Ok-later_in-clause-request
returns-in-Ok-later_in-clause-request c =
    heard_is (rows_of (found_of c.args.matches.now)) c.in-Ok.query c.in-Ok-time_of.at c.in-Ok-printing_in.printing
    c.in-Ok-file_of.file c.in-Ok-later_in.later c.in-Ok.ensures.query c.in-Ok-time_of.ensures.value
    c.in-Ok-printing_in.ensures.value c.in-Ok-file_of.ensures.value c.in-Ok-later_in.ensures.value

use Rattle.std.proofs.Common.{◌∙◌, sym}
use Rattle.clap.specs.Words.{found_of, rows_of}
use Rattle.mg_arguments.proofs.RuleLemmas.{refuses_file_of, refuses_later_of, refuses_part, refuses_printing_of, refuses_rules, watch_is}
use Rattle.mg_arguments.proofs.heard_options.watch_in.Goals as goal

pub returns-in-Err-clause-refused : goal.returns-in-Err-clause-refused
returns-in-Err-clause-refused c = refuses_rules (rows_of (found_of c.args.matches.now)) c.in-Err.fault c.in-Err.ensures.value

pub returns-in-Err-printing_in-clause-refused : goal.returns-in-Err-printing_in-clause-refused
returns-in-Err-printing_in-clause-refused c =
    refuses_printing_of (rows_of (found_of c.args.matches.now)) c.in-Ok.rules c.in-Ok.ensures.value
    c.in-Err-printing_in.ensures.refused

pub returns-in-Err-file_of-clause-refused : goal.returns-in-Err-file_of-clause-refused
returns-in-Err-file_of-clause-refused c =
    refuses_file_of (rows_of (found_of c.args.matches.now)) c.in-Ok.rules c.in-Ok-printing_in.printing
    c.in-Err-file_of.fault c.in-Ok.ensures.value c.in-Ok-printing_in.ensures.value c.in-Err-file_of.ensures.value

pub returns-in-Err-later_in-clause-refused : goal.returns-in-Err-later_in-clause-refused
returns-in-Err-later_in-clause-refused c =
    refuses_later_of (rows_of (found_of c.args.matches.now)) c.in-Ok.rules c.in-Ok-printing_in.printing
    c.in-Ok-file_of.file c.in-Err-later_in.fault c.in-Ok.ensures.value c.in-Ok-printing_in.ensures.value
    c.in-Ok-file_of.ensures.value c.in-Err-later_in.ensures.value

pub returns-then-selects_part-clause-refused : goal.returns-then-selects_part-clause-refused
returns-then-selects_part-clause-refused c =
    refuses_part (rows_of (found_of c.args.matches.now)) c.in-Ok.rules c.in-Ok-printing_in.printing c.in-Ok-file_of.file
    c.in-Ok-later_in.later c.in-Ok.ensures.value c.in-Ok-printing_in.ensures.value c.in-Ok-file_of.ensures.value
    c.in-Ok-later_in.ensures.value (sym c.selects_part.ensures.value ∙ c.if-selects_part.true)

pub returns-clause-run : goal.returns-clause-run
returns-clause-run c =
    watch_is (rows_of (found_of c.args.matches.now)) c.in-Ok.rules c.in-Ok-printing_in.printing c.in-Ok-file_of.file
    c.in-Ok-later_in.later c.in-Ok.ensures.value c.in-Ok-printing_in.ensures.value c.in-Ok-file_of.ensures.value
    c.in-Ok-later_in.ensures.value (sym c.selects_part.ensures.value ∙ c.if-selects_part.false)

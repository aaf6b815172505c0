use Rattle.std.proofs.Common.{◌∙◌, map, subst, sym, true≢false}
use Rattle.clap.specs.Words.{found_of, kind_of, rows_of}
use Rattle.mg_options.specs.Requested.{IsRefused}
use Rattle.mg_options.proofs.RequestedLemmas.{asks_none, passed_on}
use Rattle.mg_arguments.specs.declared.option_fault.OptionFault.{OptionFault}
use Rattle.mg_arguments.specs.Options.{requested, command_line, run_in}
use Rattle.mg_arguments.specs.aids.Options.{Refuses}
use Rattle.mg_arguments.proofs.InvocationLemmas.{asks_run, is_simple_line, meets_subcommand, memory_passed_on, refuses}
use Rattle.mg_arguments.proofs.options.requested_run.Goals as goal

pub returns-in_err-matches-clause-refused : goal.returns-in_err-matches-clause-refused
unfolding requested
returns-in_err-matches-clause-refused g c =
    let words = map g.S.AsStr.text c.args.words.now in
    let error = c.in_err-matches.field-0.0 in
    passed_on c.from_residual-in_err-matches.result error (IsRefused (requested words))
    c.from_residual-in_err-matches.ensures.1
    (asks_none _ command_line words c.in_ok-command.ensures.app is_simple_line _ (kind_of error)
    c.in_err-matches.ensures.kinds)

pub unreachable-requires : goal.unreachable-requires
unreachable-requires g c =
    let words = map g.S.AsStr.text c.args.words.now in
    let met = meets_subcommand _ words c.in_ok-command.ensures.app c.in_ok-matches.matches
    c.in_ok-matches.ensures.kinds c.in_ok-matches.ensures.ok.2 in
    true≢false (sym (c.in_default.ensures.variant ∙ met))

pub returns-in-Ok-clause-run : goal.returns-in-Ok-clause-run
returns-in-Ok-clause-run g c =
    let words = map g.S.AsStr.text c.args.words.now in
    asks_run _ words c.in_ok-command.ensures.app c.in_ok-matches.matches c.in-Some.name.now
    (rows_of (found_of c.in-Some.options.now)) c.in_ok-matches.ensures.kinds c.in_ok-matches.ensures.ok.2
    c.in-Some.ensures.name c.in-Some.ensures.rows ∙ c.in-Ok.ensures.run

pub returns-in_err-error-in-Err-Invalid-clause-refused : goal.returns-in_err-error-in-Err-Invalid-clause-refused
returns-in_err-error-in-Err-Invalid-clause-refused g c =
    memory_passed_on c.from_residual-in_err-error-in-Err-Invalid.result (requested (map g.S.AsStr.text c.args.words.now))
    c.from_residual-in_err-error-in-Err-Invalid.ensures.1

pub returns-in-Err-Invalid-clause-refused : goal.returns-in-Err-Invalid-clause-refused
returns-in-Err-Invalid-clause-refused g c =
    let words = map g.S.AsStr.text c.args.words.now in
    let name = c.in-Some.name.now in
    let rows = rows_of (found_of c.in-Some.options.now) in
    let refused = subst (λ (fault : OptionFault). Refuses fault (run_in name rows)) c.in-Err-Invalid.field-0-is
    c.in-Err-Invalid.ensures.refused in
    refuses _ name rows _ (asks_run _ words c.in_ok-command.ensures.app c.in_ok-matches.matches name rows
    c.in_ok-matches.ensures.kinds c.in_ok-matches.ensures.ok.2 c.in-Some.ensures.name c.in-Some.ensures.rows)
    refused c.in_ok-error-in-Err-Invalid.ensures.kind

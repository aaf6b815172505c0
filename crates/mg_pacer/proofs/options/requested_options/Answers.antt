use Rattle.std.proofs.Common.{◌∙◌, Ok, map, sym, ap}
use Rattle.clap.specs.Words.{found_of, kind_of, rows_of}
use Rattle.mg_options.specs.Requested.{IsRefused}
use Rattle.mg_options.proofs.RequestedLemmas.{asks_none, passed_on}
use Rattle.mg_pacer.specs.Options.{requested, command_line}
use Rattle.mg_pacer.proofs.InvocationLemmas.{asks_run, few_polls, is_simple_line, some_polls}
use Rattle.mg_pacer.proofs.options.requested_options.Goals as goal

pub returns-in_err-matches-clause-refused : goal.returns-in_err-matches-clause-refused
unfolding requested
returns-in_err-matches-clause-refused g c =
    let words = map g.S.AsStr.text c.args.words.now in
    let error = c.in_err-matches.field-0.0 in
    passed_on c.from_residual-in_err-matches.result error (IsRefused (requested words))
    c.from_residual-in_err-matches.ensures.1
    (asks_none _ command_line words c.in_ok-command.ensures.app is_simple_line _ (kind_of error)
    c.in_err-matches.ensures.kinds)

pub returns-clause-requested : goal.returns-clause-requested
returns-clause-requested g c =
    let words = map g.S.AsStr.text c.args.words.now in
    asks_run _ words c.in_ok-command.ensures.app c.in_ok-matches.matches c.in_ok-matches.ensures.kinds
    c.in_ok-matches.ensures.matches
    ∙ ap Ok (sym c.options_of.ensures.value)

pub returns-clause-some : goal.returns-clause-some
returns-clause-some g c = rw c.options_of.ensures.value (some_polls (rows_of (found_of c.in_ok-matches.matches)))

pub returns-clause-few : goal.returns-clause-few
returns-clause-few g c = rw c.options_of.ensures.value (few_polls (rows_of (found_of c.in_ok-matches.matches)))

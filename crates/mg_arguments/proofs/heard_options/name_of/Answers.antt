use Rattle.std.proofs.Common.{◌∙◌, Bool, ap}
use Rattle.clap.specs.Walk.{Text}
use Rattle.clap.specs.Words.{found_of, rows_of}
use Rattle.clap.proofs.WalkLemmas.{first_value-rows}
use Rattle.mg_heard.specs.Asked.{asked_by}
use Rattle.mg_arguments.specs.Options.{asked_in}
use Rattle.mg_arguments.proofs.HeardOptionLemmas.{named_fails, named_is, not_named}
use Rattle.mg_arguments.proofs.heard_options.name_of.Goals as goal

pub returns-in_default-clause-value : goal.returns-in_default-clause-value
returns-in_default-clause-value c =
    let found = found_of c.args.matches.now in
    not_named (asked_in (rows_of found)) c.args.name.now (rows_of found) (c.in_default.ensures ∙ first_value-rows found c.args.name.now)

pub returns-in-Some-of-clause-value : goal.returns-in-Some-of-clause-value
returns-in-Some-of-clause-value c =
    let found = found_of c.args.matches.now in
    named_is (asked_in (rows_of found)) c.args.name.now (rows_of found) c.in-Some.text.now c.in-Some-of.party
    (c.in-Some.ensures ∙ first_value-rows found c.args.name.now)
    (c.in-Some-of.ensures.value ∙ ap (λ (t : Text). asked_by c.is_given.result t) c.as_bytes.ensures.value ∙ ap (λ (b : Bool). asked_by b c.in-Some.text.now) c.is_given.ensures.value)

pub returns-in-None-clause-refused : goal.returns-in-None-clause-refused
returns-in-None-clause-refused c =
    let found = found_of c.args.matches.now in
    named_fails (asked_in (rows_of found)) c.args.name.now (rows_of found) c.in-Some.text.now
    (c.in-Some.ensures ∙ first_value-rows found c.args.name.now)
    (c.in-None.ensures.value ∙ ap (λ (t : Text). asked_by c.is_given.result t) c.as_bytes.ensures.value ∙ ap (λ (b : Bool). asked_by b c.in-Some.text.now) c.is_given.ensures.value)

use Rattle.std.proofs.Common.{◌∙◌, codes}
use Rattle.clap.specs.Words.{found_of, rows_of}
use Rattle.clap.proofs.WalkLemmas.{first_value-rows}
use Rattle.mg_arguments.specs.ZoneName.{zone_name}
use Rattle.mg_arguments.proofs.HeardOptionLemmas.{named_fails, named_is, not_named}
use Rattle.mg_arguments.proofs.heard_options.given_zone.Goals as goal

pub returns-in_default-clause-value : goal.returns-in_default-clause-value
returns-in_default-clause-value c =
    let found = found_of c.args.matches.now in
    not_named zone_name (codes "zone") (rows_of found) (c.in_default.ensures ∙ first_value-rows found (codes "zone"))

pub returns-in-Some-of-clause-value : goal.returns-in-Some-of-clause-value
returns-in-Some-of-clause-value c =
    let found = found_of c.args.matches.now in
    named_is zone_name (codes "zone") (rows_of found) c.in-Some.text.now c.in-Some-of.zone
    (c.in-Some.ensures ∙ first_value-rows found (codes "zone"))
    (c.in-Some-of.ensures.value)

pub returns-in-None-clause-refused : goal.returns-in-None-clause-refused
returns-in-None-clause-refused c =
    let found = found_of c.args.matches.now in
    named_fails zone_name (codes "zone") (rows_of found) c.in-Some.text.now
    (c.in-Some.ensures ∙ first_value-rows found (codes "zone"))
    (c.in-None.ensures.value)

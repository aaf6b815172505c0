use Rattle.std.proofs.Common.{◌∙◌, sym}
use Rattle.mg_chain.proofs.PartLemmas.{part_begins, part_goes_on, part_later, part_of_start, start_marks}
use Rattle.mg_chain.proofs.part.part_start.Goals as goal

pub returns-in-Some-clause-value : goal.returns-in-Some-clause-value
returns-in-Some-clause-value c = λ text whole.
    part_later text c.args.lines.now (start_marks c.args.lines.now c.in-Some.start c.in-Some.ensures.value)
    ∙ part_of_start c.args.lines.now c.in-Some.start c.in-Some.ensures.value

pub returns-in-None-clause-value : goal.returns-in-None-clause-value
returns-in-None-clause-value c = λ text whole.
    part_begins text c.args.lines.now whole c.in-None.ensures.value (sym c.starts_with.ensures.value ∙ c.if-starts_with.true)

pub returns-in-None-2-clause-value : goal.returns-in-None-2-clause-value
returns-in-None-2-clause-value c = λ text whole.
    part_goes_on text c.args.lines.now whole c.in-None-2.ensures.value
    (sym c.starts_with.ensures.value ∙ c.if-starts_with.false)

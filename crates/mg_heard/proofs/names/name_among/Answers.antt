use Rattle.std.proofs.Common.{ap, sym, ◌∙◌}
use Rattle.mg_heard.specs.declared.named.Named.{Named}
use Rattle.mg_heard.specs.Query.{is_named}
use Rattle.mg_heard.proofs.NameLemmas.{called, not_called, not_called_at_all}
use Rattle.mg_heard.proofs.names.name_among.Goals as goal

pub loop-place-preserved : goal.loop-place-preserved
loop-place-preserved c =
    c.loop-place.invariant ∙ not_called c.args.lines.now c.args.number c.args.at c.loop-place.place
    c.index-lines-place.result c.loop-place-test.true
    (ap (λ (x : Named). is_named x.key c.args.number c.args.at) (sym c.index-lines-place.is)
    ∙ (sym c.names.ensures.value ∙ c.if-names.false))

pub returns-then-names-clause-value : goal.returns-then-names-clause-value
returns-then-names-clause-value c =
    c.as_slice.ensures.value ∙ (ap (λ (x : Named). x.name) c.index-lines-place.is
    ∙ sym (c.loop-place.invariant ∙ called c.args.lines.now c.args.number c.args.at c.loop-place.place
    c.index-lines-place.result c.loop-place-test.true
    (ap (λ (x : Named). is_named x.key c.args.number c.args.at) (sym c.index-lines-place.is)
    ∙ (sym c.names.ensures.value ∙ c.if-names.true))))

pub returns-clause-value : goal.returns-clause-value
returns-clause-value c =
    sym (c.loop-place.invariant
    ∙ not_called_at_all c.args.lines.now c.args.number c.args.at c.loop-place.place c.loop-place-test.false)

use Rattle.std.proofs.Common.{sym, ◌∙◌}
use Rattle.std.proofs.lemmas.Result.{err_from_is_err_and}
use Rattle.mg_text.proofs.PartSteps.{continues, is_done, is_open, ends, commands_end, commands_follow, runs_out}
use Rattle.mg_text.proofs.actions.parts_at.Goals as goal

pub returns-in_err-commands : goal.returns-in_err-commands
returns-in_err-commands c =
    let p = err_from_is_err_and c.from_residual.result c.from_residual.ensures.1 in
    rw (p.1, p.2) (commands_end _ _ _ _ _ _ c.loop.invariant c.in_err-commands.field-0.0 c.loop-test.true
    (sym c.begins_property.ensures.value ∙ c.if-not-begins_property.true) c.in_err-commands.ensures)

pub returns-then-not-begins_property : goal.returns-then-not-begins_property
returns-then-not-begins_property c =
    rw c.new-properties-then-not-begins_property.ensures.value
    (commands_follow _ _ _ _ _ _ c.loop.invariant _ _ c.loop-test.true
    (sym c.begins_property.ensures.value ∙ c.if-not-begins_property.true) c.in_ok-commands.ensures)

pub returns-in_err-property : goal.returns-in_err-property
returns-in_err-property c =
    let p = err_from_is_err_and c.from_residual-in_err-property.result c.from_residual-in_err-property.ensures.1 in
    rw (p.1, p.2) (ends _ _ _ _ _ _ c.loop.invariant c.in_err-property.field-0.0 c.loop-test.true
    (sym c.begins_property.ensures.value ∙ c.if-not-begins_property.false) c.in_err-property.ensures)

pub returns-in_err-rest : goal.returns-in_err-rest
returns-in_err-rest c =
    let p = err_from_is_err_and c.from_residual-in_err-rest.result c.from_residual-in_err-rest.ensures.1 in
    rw (p.1, p.2) (is_open _ _ _ _ _ _ c.loop.invariant _ _ c.in_err-rest.field-0.0 c.loop-test.true
    (sym c.begins_property.ensures.value ∙ c.if-not-begins_property.false) c.in_ok-property.ensures
    c.in_default.ensures c.in_err-rest.ensures)

pub returns-in_default : goal.returns-in_default
returns-in_default c =
    rw (
      c.new-properties-in_default.ensures.value,
      c.new-commands.ensures.value,
      c.new.ensures.items,
      c.in_ok-push.ensures.items,
    ) (is_done _ _ _ _ _ _ c.loop.invariant _ _ _ c.loop-test.true
    (sym c.begins_property.ensures.value ∙ c.if-not-begins_property.false) c.in_ok-property.ensures
    c.in_default.ensures c.in_ok-rest.ensures)

pub loop-preserved : goal.loop-preserved
loop-preserved c = rw c.in_ok-push.ensures.items
    (continues _ _ _ _ _ _ c.loop.invariant _ _ _ c.loop-test.true
    (sym c.begins_property.ensures.value ∙ c.if-not-begins_property.false) c.in_ok-property.ensures c.in-Some.ensures)

pub returns : goal.returns
returns c = rw c.place_of.ensures.value (runs_out _ _ _ _ _ _ c.loop.invariant c.loop-test.false)

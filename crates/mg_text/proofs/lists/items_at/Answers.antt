use Rattle.std.proofs.lemmas.Result.{err_from_is_err_and}
use Rattle.mg_text.proofs.ListSteps.{continues, is_done, is_open, ends, runs_out}
use Rattle.mg_text.proofs.lists.items_at.Goals as goal

pub returns-in_err-item : goal.returns-in_err-item
returns-in_err-item g c =
    let p = err_from_is_err_and c.from_residual.result c.from_residual.ensures.1 in
    rw (p.1, p.2) (ends _ _ _ _ _ _ _ c.loop.invariant c.in_err-item.field-0.0 c.loop-test.true c.in_err-item.ensures)

pub returns-in_err-rest : goal.returns-in_err-rest
returns-in_err-rest g c =
    let p = err_from_is_err_and c.from_residual-in_err-rest.result c.from_residual-in_err-rest.ensures.1 in
    rw (p.1, p.2) (is_open _ _ _ _ _ _ _ c.loop.invariant _ _ c.in_err-rest.field-0.0 c.loop-test.true
    c.in_ok-item.ensures c.in_default.ensures c.in_err-rest.ensures)

pub returns-in_default : goal.returns-in_default
returns-in_default g c = rw (c.new.ensures.value, c.in_ok-push.ensures.items)
    (is_done _ _ _ _ _ _ _ c.loop.invariant _ _ _ c.loop-test.true c.in_ok-item.ensures c.in_default.ensures
    c.in_ok-rest.ensures)

pub loop-preserved : goal.loop-preserved
loop-preserved g c = rw c.in_ok-push.ensures.items
    (continues _ _ _ _ _ _ _ c.loop.invariant _ _ _ c.loop-test.true c.in_ok-item.ensures c.in-Some.ensures)

pub returns : goal.returns
returns g c = rw c.place_of.ensures.value (runs_out _ _ _ _ _ _ _ c.loop.invariant c.loop-test.false)

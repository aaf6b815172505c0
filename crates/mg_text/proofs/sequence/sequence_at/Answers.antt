use Rattle.std.proofs.Common.{◌≡◌, sym, refl}
use Rattle.std.proofs.lemmas.Result.{err_from_is_err_and}
use Rattle.mg_text.proofs.SequenceSteps.{kept_after, continues, is_done, ends, runs_out}
use Rattle.mg_text.proofs.sequence.sequence_at.Goals as goal
use Rattle.mg_text.proofs.sequence.sequence_at.Goals.{in-Some+in_ok-push, in_default}

pub returns-in_err-item : goal.returns-in_err-item
returns-in_err-item c =
    let p = err_from_is_err_and c.from_residual.result c.from_residual.ensures.1 in
    rw (p.1, p.2) (ends _ _ _ _ _ _ c.loop.invariant c.in_err-item.field-0.0 c.loop-test.true c.in_err-item.ensures)

pub returns-then-is_empty : goal.returns-then-is_empty
returns-then-is_empty c =
    let is : c.match-item.items.items ≡ kept_after c.loop.items.items c.in_ok-item.item =
    elim c.match-item.branch [
      | in-Some+in_ok-push w ↦ rw (w.items-is, w.in-Some.is) w.in_ok-push.ensures.items
      | in_default w ↦ rw (w.items-is, w.in_default.is) refl
    ] in
    rw is (is_done _ _ _ _ _ _ c.loop.invariant _ _ c.loop-test.true c.in_ok-item.ensures (sym c.if-is_empty.ensures))

pub loop-preserved : goal.loop-preserved
loop-preserved c =
    let is : c.match-item.items.items ≡ kept_after c.loop.items.items c.in_ok-item.item =
    elim c.match-item.branch [
      | in-Some+in_ok-push w ↦ rw (w.items-is, w.in-Some.is) w.in_ok-push.ensures.items
      | in_default w ↦ rw (w.items-is, w.in_default.is) refl
    ] in
    rw is (continues _ _ _ _ _ _ c.loop.invariant _ _ c.loop-test.true c.in_ok-item.ensures (sym c.if-is_empty.ensures))

pub returns : goal.returns
returns c = rw c.place_of.ensures.value (runs_out _ _ _ _ _ _ c.loop.invariant c.loop-test.false)

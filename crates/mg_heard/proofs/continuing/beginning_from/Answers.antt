use Rattle.std.proofs.Common.{◌≤◌, sym, ◌∙◌, arith}
use Rattle.mg_heard.specs.aids.Opening.{key_of}
use Rattle.mg_heard.proofs.WalkLemmas.{begun_here, begun_nowhere, key_here, not_begun}
use Rattle.mg_heard.proofs.continuing.beginning_from.Goals as goal
use Rattle.mg_heard.proofs.continuing.beginning_from.Goals.{then-loop-from-test+else-key, else-loop-from-test}

pub returns-in_err-interval-clause-value : goal.returns-in_err-interval-clause-value
returns-in_err-interval-clause-value c rising before =
    c.from_residual.ensures ∙ begun_nowhere c.args.flow.now c.args.intervals.now c.loop-from.from
    c.in_err-interval.ensures.lookup.3 (c.loop-from.invariant.passed before)

pub returns-then-is_same-clause-value : goal.returns-then-is_same-clause-value
returns-then-is_same-clause-value c rising before =
    let at = c.in_ok-interval.ensures in
    begun_here c.args.flow.now c.args.intervals.now c.loop-from.from c.in_ok-interval.interval.now at.lookup.3.0
    (sym at.lookup.1) (c.loop-from.invariant.passed before) (sym c.is_same.ensures.value ∙ c.if-is_same.true)

pub returns-else-is_same-clause-value : goal.returns-else-is_same-clause-value
returns-else-is_same-clause-value c rising before =
    let at = c.in_ok-interval.ensures in
    let x = c.in_ok-interval.interval.now in
    let within = at.lookup.3.0 in
    let above : key_of c.args.flow.now ≤ key_of x.flow = elim c.loop-from-test.branch [
      | then-loop-from-test+else-key w ↦ omega (
        arith,
        c.key-key.ensures.value,
        key_here c.args.intervals.now c.loop-from.from w.key.result x _ at.lookup.3.1 w.key.ensures.value,
      )
      | else-loop-from-test w ↦ absurd (omega (arith, within))
    ] in
    not_begun c.args.flow.now c.args.intervals.now c.loop-from.from x rising within
    (sym at.lookup.1) (c.loop-from.invariant.passed before) above (sym c.is_same.ensures.value ∙ c.if-is_same.false)

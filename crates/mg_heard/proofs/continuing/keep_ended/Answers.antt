use Rattle.std.proofs.Common.{ℕ, ◌+◌, ◌<◌, not, List, length, sym, ap, subst, ◌∙◌, arith}
use Rattle.std.specs.Prelude.{is_some}
use Rattle.mg_heard.specs.declared.open_interval.OpenInterval.{OpenInterval}
use Rattle.mg_heard.proofs.ContinueLemmas.{Keeps, before_next, keeps_not, keeps_one, unused}
use Rattle.mg_heard.proofs.continuing.keep_ended.Goals as goal
use Rattle.mg_heard.proofs.continuing.keep_ended.Goals.{then-is_none, else-is_none}

pub loop-place-preserved : goal.loop-place-preserved
loop-place-preserved c = record {
  within = c.beginning_from.ensures.within;
  behind =
      let behind = c.loop-place.invariant.behind in
      elim c.if-is_none.branch [
        | then-is_none w ↦ omega (arith, w.kept-is, behind)
        | else-is_none w ↦ omega (arith, w.kept-is, behind)
      ];
  walked = λ rising up.
      let next = c.args.next.now in
      let old = c.args.intervals.now in
      let new = c.loop-place.intervals in
      let changed = c.if-is_none.intervals in
      let from = c.loop-place.from in
      let further = c.beginning_from.new.from in
      let kept = c.loop-place.kept in
      let place = c.loop-place.place in
      let d = unused in
      let h = c.loop-place.invariant.walked rising up in
      let long = h.filters.long in
      let within : place < length new = omega (arith, c.loop-place-test.true, long) in
      let before = before_next next old new from place d long within h.filters.rest h.passed in
      let passed = c.beginning_from.ensures.passed before in
      let value = c.beginning_from.ensures.value up before in
      elim c.if-is_none.branch [
        | then-is_none w ↦ subst (λ (n : ℕ). Keeps next old changed further n (place + 1)) (sym w.kept-is)
            (keeps_one next old new changed from further kept place d rising within passed
            (ap is_some (sym value) ∙ c.is_none.ensures ∙ ap not w.if-is_none.true) w.intervals-is h)
        | else-is_none w ↦ subst (λ (n : ℕ). Keeps next old changed further n (place + 1)) (sym w.kept-is)
            (subst (λ (l : List OpenInterval). Keeps next old l further kept (place + 1)) (sym w.intervals-is)
            (keeps_not next old new from further kept place d rising within passed
            (ap is_some (sym value) ∙ c.is_none.ensures ∙ ap not w.if-is_none.false) h))
      ];
}

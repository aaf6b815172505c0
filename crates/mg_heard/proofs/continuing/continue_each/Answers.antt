use Rattle.std.proofs.Common.{◌+◌, ◌<◌, List, length, sym, subst, ◌∙◌, arith}
use Rattle.mg_heard.specs.declared.open_interval.OpenInterval.{OpenInterval}
use Rattle.mg_heard.proofs.ContinueLemmas.{Continues, before_next, continues_first, continues_same, unused}
use Rattle.mg_heard.proofs.continuing.continue_each.Goals as goal
use Rattle.mg_heard.proofs.continuing.continue_each.Goals.{in-Some, in_default}

pub loop-place-preserved : goal.loop-place-preserved
loop-place-preserved c = record {
  within = c.beginning_from.ensures.within;
  walked = λ rising up.
      let earlier = c.args.earlier.now in
      let old = c.args.intervals.now in
      let new = c.loop-place.intervals in
      let from = c.loop-place.from in
      let next = c.beginning_from.new.from in
      let place = c.loop-place.place in
      let long = c.loop-place.auto.intervals in
      let d = unused in
      let h = c.loop-place.invariant.walked rising up in
      let within : place < length new = omega (arith, c.loop-place-test.true, long) in
      let before = before_next earlier old new from place d long within h.rest h.passed in
      let passed = c.beginning_from.ensures.passed before in
      let value = c.beginning_from.ensures.value up before in
      elim c.match-beginning_from.branch [
        | in-Some w ↦ continues_first earlier old new c.match-beginning_from.intervals from next place d w.in-Some.first
            rising long within passed (sym value ∙ w.in-Some.is) w.intervals-is h
        | in_default w ↦ subst (λ (l : List OpenInterval). Continues earlier old l next (place + 1)) (sym w.intervals-is)
            (continues_same earlier old new from next place d rising long within passed (sym value ∙ w.in_default.is) h)
      ];
}

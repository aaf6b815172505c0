use Rattle.std.proofs.Common.{refl, arith}
use Rattle.std.specs.Prelude.{reverse}
use Rattle.mg_heard.specs.Intervals.{intervals}
use Rattle.mg_heard.proofs.MomentLemmas.{outcomes_more, some_moments}
use Rattle.mg_heard.proofs.theorems.intervals_exist.Goals as goal

pub loop-event-preserved : goal.loop-event-preserved
loop-event-preserved c = outcomes_more c.args.events.now c.loop-event.event-index c.event-item.result
    c.loop-event-test.true c.event-item.is c.each_event_has_an_outcome.ensures.some c.loop-event.invariant

pub returns : goal.returns
returns c = record {
  theorem = λ base.
      let (moments, are) = some_moments c.args.events.now c.loop-event.event-index (omega arith) c.loop-event.invariant base in
      (intervals (reverse moments), (moments, are, refl));
}

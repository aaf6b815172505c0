use Rattle.std.proofs.Common.{rules, ◌-◌, inl, inr, arith}
use Rattle.std.proofs.lemmas.Bool.Decides.{nat_tests}
use Rattle.std.proofs.lemmas.List.{nil_from_length}
use Rattle.mg_outlet.proofs.PassingLemmas.{led_more, led_none, led_over, led_refused, led_unready}
use Rattle.mg_outlet.proofs.passing.pass_on.Goals as goal

pub loop-passed-init : goal.loop-passed-init
loop-passed-init g c = record {
  led = led_none c.args.chunks (c.args.chunks - 0) c.args.queue.now.items (g.P.Pipe.calls c.args.pipe.now) (omega arith);
  limit = cc;
}

pub returns-then-is_empty-clause-passes : goal.returns-then-is_empty-clause-passes
returns-then-is_empty-clause-passes g c = led_over _ _ _ _ _ _ c.loop-passed.invariant.led (inl (nil_from_length c.loop-passed.queue.items (grind (arith, nat_tests, c.is_empty.ensures, c.if-is_empty.true))))

pub returns-then-not-is_ready-clause-passes : goal.returns-then-not-is_ready-clause-passes
returns-then-not-is_ready-clause-passes g c =
    led_unready _ _ _ _ _ _ _ c.loop-passed.invariant.led (omega (arith, c.loop-passed-test.true)) (λ none. search rules)
    c.if-not-is_ready.ensures.asked

pub returns-in-Err-clause-passes : goal.returns-in-Err-clause-passes
returns-in-Err-clause-passes g c =
    let (offered, taken, wrote, oldest, (none, same)) = c.in-Err.ensures.wrote in
    led_refused _ _ _ _ _ offered taken _ _ _ _ c.loop-passed.invariant.led (omega (arith, c.loop-passed-test.true)) (λ none. search rules)
    c.if-not-is_ready.ensures.asked wrote oldest none same

pub returns-in-Err-2-clause-passes : goal.returns-in-Err-2-clause-passes
returns-in-Err-2-clause-passes g c =
    let (offered, taken, wrote, oldest, (none, same)) = c.in-Err.ensures.wrote in
    led_refused _ _ _ _ _ offered taken _ _ _ _ c.loop-passed.invariant.led (omega (arith, c.loop-passed-test.true)) (λ none. search rules)
    c.if-not-is_ready.ensures.asked wrote oldest none same

pub loop-passed-preserved : goal.loop-passed-preserved
loop-passed-preserved g c =
    let (offered, taken, wrote, oldest, took) = c.in-Ok.ensures.wrote in
    record {
      led = led_more _ _ _ _ _ _ offered taken _ _ _ _ c.loop-passed.invariant.led
          (omega (arith, c.loop-passed-test.true)) (omega (arith, c.loop-passed-test.true)) (λ none. search rules)
          c.if-not-is_ready.ensures.asked wrote oldest took;
      limit = cc (c.pass_chunk.ensures.limit, c.loop-passed.invariant.limit);
    }

pub returns-clause-passes : goal.returns-clause-passes
returns-clause-passes g c =
    led_over _ _ _ _ _ _ c.loop-passed.invariant.led (inr (omega (arith, c.loop-passed-test.false)))

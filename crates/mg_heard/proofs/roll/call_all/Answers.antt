use Rattle.std.proofs.Common.{◌<◌, arith, length}
use Rattle.mg_heard.specs.aids.Calling.{called}
use Rattle.mg_heard.proofs.CallingLemmas.{step_begun, step_rest}
use Rattle.mg_heard.proofs.roll.call_all.Goals as goal

pub loop-roll-preserved : goal.loop-roll-preserved
loop-roll-preserved c =
    let old = c.args.rolls.now in
    let rolls = c.loop-roll.rolls in
    let i = c.loop-roll.roll-index in
    let there : i < length old = omega (arith, c.loop-roll-test.true, c.loop-roll.auto.rolls) in
    let within : i < length rolls = omega (arith, c.loop-roll-test.true, c.loop-roll.auto.rolls) in
    record {
      begun = λ w stands. step_begun (called w.gateway) old rolls i c.call.new.self _ there within
          (c.loop-roll.invariant.begun w stands) c.loop-roll.invariant.rest (c.call.ensures.value w stands);
      rest = step_rest old rolls i c.call.new.self c.call.new.self there within c.loop-roll.invariant.rest;
    }

use Rattle.std.proofs.Common.{◌∙◌, ◌<◌, ◌||◌, ◌+◌, Bool, ap, arith, drop, length, sym}
use Rattle.mg_rooms.specs.Registry.{Registry}
use Rattle.mg_heard.proofs.CallingLemmas.{named_in, named_step}
use Rattle.mg_heard.proofs.roll.has_asked.Goals as goal

pub loop-place-preserved : goal.loop-place-preserved
loop-place-preserved c =
    let keys = c.args.keys.now in
    let rs = c.args.core.now.state.engine.rooms.terminations in
    let i = c.loop-place.place in
    let there : i < length rs = omega (arith, c.loop-place-test.true, c.terminations-place-end.ensures.value) in
    c.loop-place.invariant
    ∙ named_step keys rs i c.termination.result c.of-party.result c.is_asked.result there c.termination.ensures.value
    c.of-party.ensures.value c.is_asked.ensures.value
    ∙ ap (λ (b : Bool). b || named_in keys (drop (i + 1) rs)) c.if-is_asked.false

pub returns-then-is_asked : goal.returns-then-is_asked
returns-then-is_asked c =
    let keys = c.args.keys.now in
    let rs = c.args.core.now.state.engine.rooms.terminations in
    let i = c.loop-place.place in
    let there : i < length rs = omega (arith, c.loop-place-test.true, c.terminations-place-end.ensures.value) in
    record {
      value = λ w stands. sym (ap (λ (x : Registry). named_in keys x.terminations) stands.gateway.rooms
          ∙ c.loop-place.invariant
          ∙ named_step keys rs i c.termination.result c.of-party.result c.is_asked.result there
          c.termination.ensures.value c.of-party.ensures.value c.is_asked.ensures.value
          ∙ ap (λ (b : Bool). b || named_in keys (drop (i + 1) rs)) c.if-is_asked.true);
    }

use Rattle.mg_engine.proofs.Common.{◌≡◌, ℕ, ◌+◌, ◌-◌, refl, sym, ap, subst, ◌∙◌, arith, Gateway, StandsFor, after_ticks, concealed_in_ticks, after_tick}
use Rattle.mg_engine.proofs.SkipLemmas.{concealed_both, concealed_last, iterate_both, iterate_last}
use Rattle.mg_engine.proofs.engine.skip.Goals as goal

pub loop-done-init : goal.loop-done-init
loop-done-init c = record { after = λ w h. h; concealed = λ w h. refl }

pub loop-done-preserved : goal.loop-done-preserved
loop-done-preserved c =
    let done = c.loop-done.done in
    let stands = c.loop-done.invariant.after in
    record {
      after = λ w h. subst (λ (v : Gateway). StandsFor c.tick_without_packets.new.self v)
          (sym (iterate_last after_tick done w))
          (c.tick_without_packets.ensures.after (after_ticks done w) (stands w h));
      concealed = λ w h.
          let more = c.tick_without_packets.ensures.concealed (after_ticks done w) (stands w h) in
          let all = concealed_last done w in
          omega (arith, c.saturating_add-concealed.ensures, c.loop-done.invariant.concealed w h, more, all);
    }

pub returns-then-is_idle-clause-concealed : goal.returns-then-is_idle-clause-concealed
returns-then-is_idle-clause-concealed c w h =
    let done = c.loop-done.done in
    let rest = c.args.count - done in
    let all : done + rest ≡ c.args.count = omega (arith, c.loop-done-test.true) in
    let none = c.pass.ensures.none (after_ticks done w) (c.loop-done.invariant.after w h) in
    let both = ap (λ (n : ℕ). concealed_in_ticks n w) all in
    omega (arith, c.loop-done.invariant.concealed w h, none, concealed_both done rest w, both)

pub returns-then-is_idle-clause-after : goal.returns-then-is_idle-clause-after
returns-then-is_idle-clause-after c w h =
    let done = c.loop-done.done in
    let rest = c.args.count - done in
    let all : done + rest ≡ c.args.count = omega (arith, c.loop-done-test.true) in
    subst (λ (v : Gateway). StandsFor c.pass.new.self v)
    (sym (iterate_both after_tick done rest w) ∙ ap (λ (n : ℕ). after_ticks n w) all)
    (c.pass.ensures.after (after_ticks done w) (c.loop-done.invariant.after w h))

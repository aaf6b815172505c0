use Rattle.mg_engine.proofs.Common.{length, ap, ◌∙◌, arith, Limits, view, HasPassed}
use Rattle.mg_engine.proofs.HeldLemmas.{held_below, held_apart, each_held}
use Rattle.mg_engine.proofs.SkipLemmas.{passed_conceals, passed_stands}
use Rattle.mg_engine.proofs.engine.Engine.pass.Goals as goal

pub pass_slots-requires : goal.pass_slots-requires
pass_slots-requires c =
    let w = c.self.inside.rooms in
    let slots = c.as_slice.result.now in
    let sound = c.self.invariant.sound in
    let held = c.as_slice.ensures.value ∙ c.self.invariant.held in
    let limit = ap (λ (l : Limits). l.slots) c.self.invariant.limits in
    record {
      slots = held_below w slots held (length c.self.inside.media.items) sound
          (omega (arith, limit, c.self.invariant.media));
      apart = held_apart w slots held sound;
    }

pub returns-clause-none : goal.returns-clause-none
returns-clause-none c w h = passed_conceals c.args.self.now w c.args.count c.requires.idle h

pub returns-clause-after : goal.returns-clause-after
returns-clause-after c w h =
    let k = view c.self.inside in
    let sound = c.self.invariant.sound in
    let stands = rw (← c.self.view_is) at h in
    let idle = rw (← c.self.view_is) at c.requires.idle in
    let all = each_held k.rooms c.as_slice.result.now (c.as_slice.ensures.value ∙ c.self.invariant.held)
    (HasPassed k.rooms c.args.count k.media c.pass_slots.new.media.items) c.pass_slots.ensures.each in
    passed_stands k w c.args.count c.pass_slots.new.media.items sound c.requires.some idle all stands

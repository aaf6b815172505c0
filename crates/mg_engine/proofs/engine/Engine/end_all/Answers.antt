use Rattle.mg_engine.proofs.Common.{length, ap, ◌∙◌, arith, Limits, view, IsEnded}
use Rattle.mg_engine.proofs.HeldLemmas.{held_below, held_apart, each_held}
use Rattle.mg_engine.proofs.TickLemmas.{ended_stands}
use Rattle.mg_engine.proofs.engine.Engine.end_all.Goals as goal

pub end_slots-requires : goal.end_slots-requires
end_slots-requires c =
    let w = c.self.inside.rooms in
    let slots = c.as_slice.result.now in
    let sound = c.self.invariant.sound in
    let held = c.as_slice.ensures.value ∙ c.self.invariant.held in
    let limit = ap (λ (l : Limits). l.slots) c.self.invariant.limits in
    record {
      slots = held_below w slots held (length c.self.inside.media.items) sound
          (omega (arith, limit, c.self.invariant.media));
      apart = held_apart w slots held sound;
    }

pub returns-clause-after : goal.returns-clause-after
returns-clause-after c w h =
    let k = view c.self.inside in
    ended_stands k w c.end_slots.new.media.items c.self.invariant.sound (each_held k.rooms c.as_slice.result.now
    (c.as_slice.ensures.value ∙ c.self.invariant.held) (IsEnded k.rooms k.media c.end_slots.new.media.items)
    c.end_slots.ensures.each) (rw (← c.self.view_is) at h)

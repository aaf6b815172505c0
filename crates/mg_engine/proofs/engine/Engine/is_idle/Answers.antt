use Rattle.mg_engine.proofs.Common.{List, length, ap, ◌∙◌, arith, Limits, SlotMedia, IsIdleSlot}
use Rattle.mg_engine.proofs.HeldLemmas.{held_below, each_held}
use Rattle.mg_engine.proofs.engine.Engine.is_idle.Goals as goal

pub are_idle-requires : goal.are_idle-requires
are_idle-requires c =
    let slots = c.as_slice.result.now in
    let sound = c.self.invariant.sound in
    let held = c.as_slice.ensures.value ∙ c.self.invariant.held in
    let limit = ap (λ (l : Limits). l.slots) c.self.invariant.limits in
    let long = ap (λ (ms : List SlotMedia). length ms) c.as_slice-2.ensures.value in
    record {
      slots = held_below c.self.inside.rooms slots held (length c.as_slice-2.result.now) sound
          (omega (arith, limit, c.self.invariant.media, long));
      few = omega (arith, limit, c.self.invariant.media, long, sound.consistent.limits.0.few_slots);
    }

pub returns : goal.returns
returns c = record {
  value = λ yes. rw (← c.self.view_is, ← c.as_slice-2.ensures.value) (each_held c.self.inside.rooms
      c.as_slice.result.now (c.as_slice.ensures.value ∙ c.self.invariant.held)
      (IsIdleSlot c.as_slice-2.result.now c.self.inside.sums.frames) (c.are_idle.ensures.value yes));
}

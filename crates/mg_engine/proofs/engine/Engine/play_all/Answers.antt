use Rattle.mg_engine.proofs.Common.{◌≡◌, ℕ, ◌*◌, length, ap, subst, ◌∙◌, arith, Limits, view, EngineState, RisesAtMost, IsPlayed}
use Rattle.mg_engine.proofs.ConcealLemmas.{concealed_is}
use Rattle.mg_engine.proofs.HeldLemmas.{many, held_below, held_apart, each_held}
use Rattle.mg_engine.proofs.TickLemmas.{played_stands}
use Rattle.mg_engine.proofs.engine.Engine.play_all.Goals as goal

pub play_slots-requires : goal.play_slots-requires
play_slots-requires c =
    let w = c.self.inside.rooms in
    let slots = c.as_slice.result.now in
    let sound = c.self.invariant.sound in
    let held = c.as_slice.ensures.value ∙ c.self.invariant.held in
    let limit = ap (λ (l : Limits). l.slots) c.self.invariant.limits in
    record {
      slots = held_below w slots held (length c.self.inside.media.items) sound
          (omega (arith, limit, c.self.invariant.media));
      few = omega (arith, limit, c.self.invariant.media, sound.consistent.limits.0.few_slots);
      apart = held_apart w slots held sound;
    }

pub returns-clause-after : goal.returns-clause-after
returns-clause-after c w h =
    let k = view c.self.inside in
    let all = each_held k.rooms c.as_slice.result.now (c.as_slice.ensures.value ∙ c.self.invariant.held)
    (IsPlayed k.media c.play_slots.new.media.items c.play_slots.new.sums.frames) c.play_slots.ensures.each in
    played_stands k w c.play_slots.new.media.items c.play_slots.new.sums all (rw (← c.self.view_is) at h)

pub returns-clause-concealed : goal.returns-clause-concealed
returns-clause-concealed c w h =
    let k = view c.self.inside in
    let held = c.as_slice.ensures.value ∙ c.self.invariant.held in
    let stands = rw (← c.self.view_is) at h in
    c.play_slots.ensures.concealed ∙ concealed_is k w c.as_slice.result.now stands c.self.invariant.sound held

pub returns-clause-work : goal.returns-clause-work
returns-clause-work c =
    let w = c.self.inside.rooms in
    let slots = c.as_slice.result.now in
    let held = c.as_slice.ensures.value ∙ c.self.invariant.held in
    let twice : 2 * length slots ≡ 2 * length w.terminations = omega (arith, many w slots held) in
    subst (λ (x : EngineState). RisesAtMost (2 * length x.rooms.terminations) x.sums.work c.play_slots.new.sums.work)
    c.self.view_is
    (subst (λ (m : ℕ). RisesAtMost m c.self.inside.sums.work c.play_slots.new.sums.work) twice
    c.play_slots.ensures.work)

use Rattle.mg_engine.proofs.Common.{◌∷◌, length, sym, ap, subst, ◌∙◌, arith, length-set, same_Some, Record, view, Enter, Leave, moved, member_place, sound_if, refl}
use Rattle.mg_engine.proofs.EditLemmas.{has_stats, slot_fits, held_changed, changed_at, changed_stands, Hears, same_others, carry, hears_carry, has_left, hears_left, free_place, has_entered, hears_entered, joined_changed, carry_seats, seated_put, on_its_place, member_within, move_changes, rises_less}
use Rattle.mg_engine.proofs.engine.Engine.move_to.Goals as goal

pub tune-requires : goal.tune-requires
tune-requires c =
    let old = c.self.inside.rooms in
    let new = c.move_to.new.self in
    let n = c.args.number in
    let d = c.in_ok-moved.moved.to.record in
    let sound = sound_if _ c.move_to.ensures.consistent in
    let a = move_changes old c.args.target n c.args.settings.now new d c.in_ok-moved.ensures.outcome in
    record { slot = slot_fits c.self.inside new n d c.self.invariant sound a.limits c.in_ok-moved.ensures.to.found }

pub vacate-requires : goal.vacate-requires
vacate-requires c =
    let was = on_its_place c.self.inside.rooms c.args.number c.in_ok-moved.moved.from c.in_ok-moved.ensures.from in
    record {
      held = (c.self.invariant.members.each c.args.number c.in_ok-moved.moved.from.record
          (member_place c.in_ok-moved.moved.from) was).held;
    }

pub enter-requires : goal.enter-requires
enter-requires c =
    let old = c.self.inside.rooms in
    let new = c.move_to.new.self in
    let n = c.args.number in
    let m = c.in_ok-moved.moved.to in
    let d = m.record in
    let before = c.self.invariant.sound in
    let sound = sound_if _ c.move_to.ensures.consistent in
    let at = c.in_ok-moved.ensures.to in
    let p = member_place m in
    let from = member_place c.in_ok-moved.moved.from in
    let k = view c.self.inside in
    let others = c.in_ok-moved.ensures.others.termination in
    let was = on_its_place old n c.in_ok-moved.moved.from c.in_ok-moved.ensures.from in
    let on = on_its_place new n m at in
    let a = move_changes old c.args.target n c.args.settings.now new d c.in_ok-moved.ensures.outcome in
    let same = same_others old new n before sound c.move_to.ensures.lasts.room others in
    let left = c.vacate.ensures.left in
    let without = carry old new n c.vacate.new.flows same
    (has_left old n c.in_ok-moved.moved.from.record from c.self.inside.flows c.vacate.new.flows before was left
    c.self.invariant.members) in
    record {
      within = member_within new n m sound at;
      slot = omega (arith, (sound.termination n d at.found).1.slot, sound.consistent.limits.0.few_slots);
      free = free_place new n d p c.vacate.new.flows sound without on;
    }

pub invariant_of-self-2 : goal.invariant_of-self-2
invariant_of-self-2 c =
    let old = c.self.inside.rooms in
    let new = c.move_to.new.self in
    let n = c.args.number in
    let m = c.in_ok-moved.moved.to in
    let d = m.record in
    let before = c.self.invariant.sound in
    let sound = sound_if _ c.move_to.ensures.consistent in
    let p = member_place m in
    let from = member_place c.in_ok-moved.moved.from in
    let others = c.in_ok-moved.ensures.others.termination in
    let was = on_its_place old n c.in_ok-moved.moved.from c.in_ok-moved.ensures.from in
    let on = on_its_place new n m c.in_ok-moved.ensures.to in
    let a = move_changes old c.args.target n c.args.settings.now new d c.in_ok-moved.ensures.outcome in
    let same = same_others old new n before sound c.move_to.ensures.lasts.room others in
    let left = c.vacate.ensures.left in
    let without = carry old new n c.vacate.new.flows same
    (has_left old n c.in_ok-moved.moved.from.record from c.self.inside.flows c.vacate.new.flows before was left
    c.self.invariant.members) in
    let members = has_entered new n d p c.vacate.new.flows c.enter.new.flows sound on
    c.enter.ensures.entered without in
    let seats = seated_put new n d p c.self.inside.seating c.self.invariant.places sound on
    (carry_seats old new n c.self.inside.seating same c.self.invariant.seats) in
    let put = c.enter.ensures.seated in
    let joined = joined_changed old new n d p c.self.inside.sums.rooms c.enter.new.sums.rooms sound same on
    (λ x there. ap (λ (y : Record). y.slot) (same_Some x a.was (sym there ∙ a.there)) ∙ sym a.slot)
    c.enter.ensures.joined c.self.invariant.joined in
    record {
      sound = sound;
      limits = a.limits ∙ c.self.invariant.limits;
      media = ap length c.tune.ensures.tuned ∙ length-set c.self.inside.media.items _ _ ∙ c.self.invariant.media;
      held = held_changed (view c.self.inside) new n d c.self.inside.held.items a c.self.invariant.held;
      members = members;
      seats = rw put seats;
      places = ap length put ∙ length-set c.self.inside.seating _ _ ∙ c.self.invariant.places;
      row_count = c.enter.ensures.rows;
      joined = joined;
    }

pub returns-clause-outcome : goal.returns-clause-outcome
returns-clause-outcome c w h =
    let old = c.self.inside.rooms in
    let new = c.move_to.new.self in
    let n = c.args.number in
    let m = c.in_ok-moved.moved.to in
    let d = m.record in
    let before = c.self.invariant.sound in
    let sound = sound_if _ c.move_to.ensures.consistent in
    let at = c.in_ok-moved.ensures.to in
    let p = member_place m in
    let r = c.in_ok-moved.moved.from.record in
    let from = member_place c.in_ok-moved.moved.from in
    let settings = c.args.settings.now in
    let done = c.in_ok-moved.ensures.outcome in
    let k = view c.self.inside in
    let others = c.in_ok-moved.ensures.others.termination in
    let was = on_its_place old n c.in_ok-moved.moved.from c.in_ok-moved.ensures.from in
    let on = on_its_place new n m at in
    let a = move_changes old c.args.target n settings new d done in
    let same = same_others old new n before sound c.move_to.ensures.lasts.room others in
    let left = c.vacate.ensures.left in
    let without = carry old new n c.vacate.new.flows same
    (has_left old n r from c.self.inside.flows c.vacate.new.flows before was left c.self.invariant.members) in
    let lt = slot_fits c.self.inside new n d c.self.invariant sound a.limits at.found in
    let stands = rw (← c.self.view_is) at h in
    let apart = hears_carry old new n c.vacate.new.flows w.edits same
    (hears_left old n r from k.flows c.vacate.new.flows before was left w.edits stands.hears) in
    let entered = hears_entered new n d p c.vacate.new.flows c.enter.new.flows sound on
    c.enter.ensures.entered without (Leave n ∷ w.edits) apart in
    let hears = subst (λ (m : _). Hears new c.enter.new.flows (Enter m ∷ Leave m ∷ w.edits))
    (sym (changed_at k new n d a)) entered in (
      moved w settings new d,
      rw (stands.rooms, done) refl,
      rw c.tune.ensures.tuned (changed_stands k new c.enter.new.flows c.enter.new.sums w settings n d
          (Enter d.number ∷ Leave d.number ∷ w.edits) a sound others lt c.enter.ensures.frames hears stands),
    )

pub returns-clause-stats : goal.returns-clause-stats
returns-clause-stats c w h =
    has_stats _ w c.args.number c.in_ok-moved.moved.to.record (invariant_of-self-2 c) h c.in_ok-moved.ensures.to.found

pub returns-clause-work : goal.returns-clause-work
returns-clause-work c = rw (← c.self.view_is)
    (rises_less 2 4 c.self.inside.sums.work c.enter.new.sums.work (omega arith) c.enter.ensures.work)

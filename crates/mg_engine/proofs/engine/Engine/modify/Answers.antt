use Rattle.mg_engine.proofs.Common.{length, sym, ap, ◌∙◌, arith, length-set, same_Some, Record, view, modified, member_place, sound_if, refl}
use Rattle.mg_engine.proofs.EditLemmas.{has_stats, slot_fits, held_changed, changed_stands, same_others, stayed_at, has_mode, hears_mode, joined_changed, seated_mode, on_its_place, member_within, modify_changes, rises_less}
use Rattle.mg_engine.proofs.engine.Engine.modify.Goals as goal

pub tune-requires : goal.tune-requires
tune-requires c =
    let old = c.self.inside.rooms in
    let new = c.modify.new.self in
    let n = c.args.number in
    let d = c.in_ok-changed.changed.record in
    let sound = sound_if _ c.modify.ensures.consistent in
    let (a, _) = modify_changes old c.args.target n c.args.settings.now new d c.in_ok-changed.ensures.outcome in
    record { slot = slot_fits c.self.inside new n d c.self.invariant sound a.limits c.in_ok-changed.ensures.member.found }

pub take_mode-requires : goal.take_mode-requires
take_mode-requires c =
    let old = c.self.inside.rooms in
    let new = c.modify.new.self in
    let n = c.args.number in
    let m = c.in_ok-changed.changed in
    let d = m.record in
    let before = c.self.invariant.sound in
    let sound = sound_if _ c.modify.ensures.consistent in
    let at = c.in_ok-changed.ensures.member in
    let p = member_place m in
    let done = c.in_ok-changed.ensures.outcome in
    let k = view c.self.inside in
    let others = c.in_ok-changed.ensures.others.termination in
    let on = on_its_place new n m at in
    let (a, context) = modify_changes old c.args.target n c.args.settings.now new d done in
    let same = same_others old new n before sound c.modify.ensures.lasts.room others in
    let was = stayed_at old new n a.was d p before c.modify.ensures.lasts a.there context on in
    record {
      within = member_within new n m sound at;
      slot = omega (arith, (sound.termination n d at.found).1.slot, sound.consistent.limits.0.few_slots);
      held = (c.self.invariant.members.each n a.was p was).held;
    }

pub invariant_of-self-2 : goal.invariant_of-self-2
invariant_of-self-2 c =
    let old = c.self.inside.rooms in
    let new = c.modify.new.self in
    let n = c.args.number in
    let m = c.in_ok-changed.changed in
    let d = m.record in
    let before = c.self.invariant.sound in
    let sound = sound_if _ c.modify.ensures.consistent in
    let p = member_place m in
    let done = c.in_ok-changed.ensures.outcome in
    let others = c.in_ok-changed.ensures.others.termination in
    let on = on_its_place new n m c.in_ok-changed.ensures.member in
    let (a, context) = modify_changes old c.args.target n c.args.settings.now new d done in
    let same = same_others old new n before sound c.modify.ensures.lasts.room others in
    let was = stayed_at old new n a.was d p before c.modify.ensures.lasts a.there context on in
    let members = has_mode old new n a.was d p c.self.inside.flows c.take_mode.new.flows sound
    same was on (sym context) c.take_mode.ensures.taken c.self.invariant.members in
    let seats = seated_mode old new n a.was d p c.self.inside.seating same was on a.slot c.self.invariant.seats in
    let joined = joined_changed old new n d p c.self.inside.sums.rooms c.take_mode.new.sums.rooms sound same
    on (λ x there. ap (λ (y : Record). y.slot) (same_Some x a.was (sym there ∙ a.there)) ∙ sym a.slot)
    c.take_mode.ensures.joined c.self.invariant.joined in
    record {
      sound = sound;
      limits = a.limits ∙ c.self.invariant.limits;
      media = ap length c.tune.ensures.tuned ∙ length-set c.self.inside.media.items _ _ ∙ c.self.invariant.media;
      held = held_changed (view c.self.inside) new n d c.self.inside.held.items a c.self.invariant.held;
      members = members;
      seats = seats;
      places = c.self.invariant.places;
      row_count = c.take_mode.ensures.rows;
      joined = joined;
    }

pub returns-clause-outcome : goal.returns-clause-outcome
returns-clause-outcome c w h =
    let old = c.self.inside.rooms in
    let new = c.modify.new.self in
    let n = c.args.number in
    let m = c.in_ok-changed.changed in
    let d = m.record in
    let before = c.self.invariant.sound in
    let sound = sound_if _ c.modify.ensures.consistent in
    let at = c.in_ok-changed.ensures.member in
    let p = member_place m in
    let settings = c.args.settings.now in
    let done = c.in_ok-changed.ensures.outcome in
    let k = view c.self.inside in
    let others = c.in_ok-changed.ensures.others.termination in
    let on = on_its_place new n m at in
    let (a, context) = modify_changes old c.args.target n settings new d done in
    let same = same_others old new n before sound c.modify.ensures.lasts.room others in
    let was = stayed_at old new n a.was d p before c.modify.ensures.lasts a.there context on in
    let lt = slot_fits c.self.inside new n d c.self.invariant sound a.limits at.found in
    let stands = rw (← c.self.view_is) at h in
    let hears = hears_mode old new n a.was d p k.flows c.take_mode.new.flows sound same was on
    (sym context) c.take_mode.ensures.taken w.edits stands.hears in (
      modified w settings new d,
      rw (stands.rooms, done) refl,
      rw c.tune.ensures.tuned (changed_stands k new c.take_mode.new.flows c.take_mode.new.sums w settings n d w.edits a
          sound others lt c.take_mode.ensures.frames hears stands),
    )

pub returns-clause-stats : goal.returns-clause-stats
returns-clause-stats c w h =
    has_stats _ w c.args.number c.in_ok-changed.changed.record (invariant_of-self-2 c) h c.in_ok-changed.ensures.member.found

pub returns-clause-work : goal.returns-clause-work
returns-clause-work c = rw (← c.self.view_is)
    (rises_less 2 4 c.self.inside.sums.work c.take_mode.new.sums.work (omega arith) c.take_mode.ensures.work)

use Rattle.mg_engine.proofs.Common.{◌<◌, ℕ, List, Option, length, sym, ap, subst, ◌∙◌, arith, length-set, view, added, member_place, sound_if, SetsRow, room_for, initial_media, refl}
use Rattle.mg_engine.proofs.EditLemmas.{has_stats, slot_fits, room_left, held_added, unknown_before, begun_tuned, added_stands, no_record, same_others, carry, hears_carry, unknown, hears_some, free_place, has_entered, hears_entered, joined_changed, carry_seats, seated_put, on_its_place, member_within, add_adds, rises_twice}
use Rattle.mg_engine.proofs.engine.Engine.add.Goals as goal

pub begin-requires : goal.begin-requires
begin-requires c =
    let new = c.add.new.self in
    let d = c.in_ok-made.made.record in
    let sound = sound_if _ c.add.ensures.consistent in
    let found = c.in_ok-made.ensures.member.found in
    let a = add_adds c.self.inside.rooms c.args.target c.args.settings.now new d c.in_ok-made.ensures.outcome in
    record {
      slot = (
        slot_fits c.self.inside new d.number d c.self.invariant sound a.limits found,
        omega (arith, (sound.termination d.number d found).1.slot, sound.consistent.limits.0.few_slots),
      );
    }

pub tune-requires : goal.tune-requires
tune-requires c =
    let new = c.add.new.self in
    let d = c.in_ok-made.made.record in
    let sound = sound_if _ c.add.ensures.consistent in
    let a = add_adds c.self.inside.rooms c.args.target c.args.settings.now new d c.in_ok-made.ensures.outcome in
    let lt = slot_fits c.self.inside new d.number d c.self.invariant sound a.limits c.in_ok-made.ensures.member.found in
    let long = ap length c.begin.ensures.initial_media ∙ length-set c.self.inside.media.items _ _ in
    record { slot = omega (arith, lt, long) }

pub push-requires : goal.push-requires
push-requires c =
    let a = add_adds c.self.inside.rooms c.args.target c.args.settings.now c.add.new.self c.in_ok-made.made.record
    c.in_ok-made.ensures.outcome in (
      omega arith,
      room_left c.self.inside c.add.new.self c.in_ok-made.made.record c.self.invariant a
          (sound_if _ c.add.ensures.consistent),
    )

pub enter-requires : goal.enter-requires
enter-requires c =
    let old = c.self.inside.rooms in
    let new = c.add.new.self in
    let m = c.in_ok-made.made in
    let d = m.record in
    let sound = sound_if _ c.add.ensures.consistent in
    let at = c.in_ok-made.ensures.member in
    let on = on_its_place new d.number m at in
    let a = add_adds old c.args.target c.args.settings.now new d c.in_ok-made.ensures.outcome in
    let same = same_others old new d.number c.self.invariant.sound sound c.add.ensures.lasts.room
    c.in_ok-made.ensures.others.termination in
    let has = carry old new d.number c.self.inside.flows same
    (unknown old d.number c.self.inside.flows (unknown_before old new d a sound) c.self.invariant.members) in
    let is = (sound.termination d.number d at.found).1 in
    record {
      within = member_within new d.number m sound at;
      slot = omega (arith, is.slot, sound.consistent.limits.0.few_slots);
      free = free_place new d.number d (member_place m) c.self.inside.flows sound has on;
    }

pub invariant_of-self-2 : goal.invariant_of-self-2
invariant_of-self-2 c =
    let old = c.self.inside.rooms in
    let new = c.add.new.self in
    let m = c.in_ok-made.made in
    let d = m.record in
    let n = d.number in
    let p = member_place m in
    let sound = sound_if _ c.add.ensures.consistent in
    let on = on_its_place new n m c.in_ok-made.ensures.member in
    let a = add_adds old c.args.target c.args.settings.now new d c.in_ok-made.ensures.outcome in
    let same = same_others old new n c.self.invariant.sound sound c.add.ensures.lasts.room
    c.in_ok-made.ensures.others.termination in
    let none = unknown_before old new d a sound in
    let members = has_entered new n d p c.self.inside.flows c.enter.new.flows sound on c.enter.ensures.entered
    (carry old new n c.self.inside.flows same (unknown old n c.self.inside.flows none c.self.invariant.members)) in
    let seats = seated_put new n d p c.self.inside.seating c.self.invariant.places sound on
    (carry_seats old new n c.self.inside.seating same c.self.invariant.seats) in
    let put = c.enter.ensures.seated in
    let rows = subst (λ (rows : List (Option ℕ)). SetsRow rows c.enter.new.sums.rooms d.slot (room_for d.mode m.room))
    c.begin.ensures.joined c.enter.ensures.joined in
    let joined = joined_changed old new n d p c.self.inside.sums.rooms c.enter.new.sums.rooms sound same on
    (λ was there. absurd (no_record was (sym there ∙ none))) rows c.self.invariant.joined in
    let tuned = ap length c.tune.ensures.tuned ∙ length-set c.begin.new.media.items _ _ in
    let long = tuned ∙ ap length c.begin.ensures.initial_media ∙ length-set c.self.inside.media.items _ _ in
    record {
      sound = sound;
      limits = a.limits ∙ c.self.invariant.limits;
      media = long ∙ c.self.invariant.media;
      held = held_added old new d c.self.inside.held.items c.push.new.self.items a c.self.invariant.held
          c.push.ensures.items;
      members = members;
      seats = rw put seats;
      places = ap length put ∙ length-set c.self.inside.seating _ _ ∙ c.self.invariant.places;
      row_count = c.enter.ensures.rows;
      joined = joined;
    }

pub returns-clause-outcome : goal.returns-clause-outcome
returns-clause-outcome c w h =
    let old = c.self.inside.rooms in
    let new = c.add.new.self in
    let m = c.in_ok-made.made in
    let d = m.record in
    let n = d.number in
    let p = member_place m in
    let settings = c.args.settings.now in
    let done = c.in_ok-made.ensures.outcome in
    let k = view c.self.inside in
    let sound = sound_if _ c.add.ensures.consistent in
    let at = c.in_ok-made.ensures.member in
    let on = on_its_place new n m at in
    let a = add_adds old c.args.target settings new d done in
    let is = (sound.termination n d at.found).1 in
    let lt = slot_fits c.self.inside new n d c.self.invariant sound a.limits at.found in
    let in_rows : d.slot < length k.sums.frames =
    omega (arith, is.slot, sound.consistent.limits.0.few_slots, c.begin.ensures.rows) in
    let others = c.in_ok-made.ensures.others.termination in
    let set_to = begun_tuned k.media c.begin.new.media.items c.tune.new.media.items d.slot (initial_media k.config)
    settings.depth lt c.begin.ensures.initial_media c.tune.ensures.tuned in
    let stands = rw (← c.self.view_is) at h in
    let same = same_others old new n c.self.invariant.sound sound c.add.ensures.lasts.room others in
    let has = carry old new n k.flows same (unknown old n k.flows (unknown_before old new d a sound)
    c.self.invariant.members) in
    let hears = hears_entered new n d p k.flows c.enter.new.flows sound on c.enter.ensures.entered has w.edits
    (hears_carry old new n k.flows w.edits same (hears_some old n k.flows w.edits stands.hears)) in (
      added w settings new d,
      rw (stands.rooms, done) refl,
      rw set_to (added_stands k new c.enter.new.flows c.enter.new.sums w settings d a sound others at.found lt in_rows
          (c.enter.ensures.frames ∙ c.begin.ensures.silent) hears stands),
    )

pub returns-clause-stats : goal.returns-clause-stats
returns-clause-stats c w h =
    has_stats _ w c.in_ok-made.made.record.number c.in_ok-made.made.record (invariant_of-self-2 c) h c.in_ok-made.ensures.member.found

pub returns-clause-work : goal.returns-clause-work
returns-clause-work c = rw (← c.self.view_is)
    (rises_twice 2 2 4 c.self.inside.sums.work c.begin.new.sums.work c.enter.new.sums.work (omega arith)
    c.begin.ensures.work c.enter.ensures.work)

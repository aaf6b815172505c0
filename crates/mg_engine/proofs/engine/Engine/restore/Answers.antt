use Rattle.mg_engine.proofs.Common.{ℕ, ◌<◌, List, Option, Registry, Member, arith, ap, subst, sym, refl, ◌∙◌, length, length-set, view, record_at, sound_if, SetsRow, room_for, member_place}
use Rattle.mg_engine.proofs.EditLemmas.{slot_fits, no_record, same_others, carry, unknown, free_place, has_entered, joined_changed, carry_seats, seated_put, on_its_place}
use Rattle.mg_engine.proofs.RestoringLemmas.{held_put, insert_fits, put_quiet, restored_limits}
use Rattle.mg_rooms.proofs.RestoreLemmas.{may_restore_is}
use Rattle.mg_engine.proofs.engine.Engine.restore.Goals as goal

pub returns-then-not-restore-clause-quiet : goal.returns-then-not-restore-clause-quiet
returns-then-not-restore-clause-quiet c = rw (← c.self.view_is) (λ quiet n r found.
    quiet n r (ap (λ (w : Registry). record_at w n) (sym c.if-not-restore.ensures.outcome) ∙ found))

pub insert-requires : goal.insert-requires
insert-requires c =
    let d = c.args.termination.now in
    let fits = insert_fits c.self.inside c.restore.new.self d c.args.room c.rank-rank.result c.self.invariant
    c.if-not-restore.ensures.outcome (sound_if _ c.restore.ensures.consistent) c.rank-rank.ensures.value in
    (omega arith, (fits.0, fits.1))

pub enter-requires-clause-free : goal.enter-requires-clause-free
enter-requires-clause-free c =
    let old = c.self.inside.rooms in
    let new = c.restore.new.self in
    let d = c.args.termination.now in
    let m : Member = record { «record» = d; room = c.args.room } in
    let sound = sound_if _ c.restore.ensures.consistent in
    let on = on_its_place new d.number m (c.if-not-restore.ensures.member refl) in
    let can = may_restore_is old d c.args.room (sym c.if-not-restore.ensures.value) in
    let same = same_others old new d.number c.self.invariant.sound sound c.restore.ensures.lasts.room
    c.restore.ensures.others.termination in
    let has = carry old new d.number c.self.inside.flows same
    (unknown old d.number c.self.inside.flows can.number c.self.invariant.members) in
    free_place new d.number d (member_place m) c.self.inside.flows sound has on

pub invariant_of-self-2 : goal.invariant_of-self-2
invariant_of-self-2 c =
    let old = c.self.inside.rooms in
    let new = c.restore.new.self in
    let d = c.args.termination.now in
    let n = d.number in
    let m : Member = record { «record» = d; room = c.args.room } in
    let p = member_place m in
    let sound = sound_if _ c.restore.ensures.consistent in
    let on = on_its_place new n m (c.if-not-restore.ensures.member refl) in
    let can = may_restore_is old d c.args.room (sym c.if-not-restore.ensures.value) in
    let same = same_others old new n c.self.invariant.sound sound c.restore.ensures.lasts.room
    c.restore.ensures.others.termination in
    let members = has_entered new n d p c.self.inside.flows c.enter.new.flows sound on c.enter.ensures.entered
    (carry old new n c.self.inside.flows same (unknown old n c.self.inside.flows can.number c.self.invariant.members)) in
    let seats = seated_put new n d p c.self.inside.seating c.self.invariant.places sound on
    (carry_seats old new n c.self.inside.seating same c.self.invariant.seats) in
    let put = c.enter.ensures.seated in
    let rows = subst (λ (rows : List (Option ℕ)). SetsRow rows c.enter.new.sums.rooms d.slot (room_for d.mode m.room))
    c.begin_with.ensures.joined c.enter.ensures.joined in
    let joined = joined_changed old new n d p c.self.inside.sums.rooms c.enter.new.sums.rooms sound same on
    (λ was there. absurd (no_record was (sym there ∙ can.number))) rows c.self.invariant.joined in
    let limits = ap (λ (w : Registry). w.limits) c.if-not-restore.ensures.outcome ∙ restored_limits old d c.args.room in
    record {
      sound = sound;
      limits = limits ∙ c.self.invariant.limits;
      media = ap length c.begin_with.ensures.restored ∙ length-set c.self.inside.media.items _ _ ∙
          c.self.invariant.media;
      held = held_put old new d c.args.room c.rank-rank.result c.self.inside.held.items c.insert.new.self.items
          c.self.invariant.sound.consistent can c.if-not-restore.ensures.outcome c.self.invariant.held
          c.rank-rank.ensures.value c.insert.ensures.items;
      members = members;
      seats = rw put seats;
      places = ap length put ∙ length-set c.self.inside.seating _ _ ∙ c.self.invariant.places;
      row_count = c.enter.ensures.rows;
      joined = joined;
    }

pub returns-clause-quiet : goal.returns-clause-quiet
returns-clause-quiet c =
    let old = c.self.inside.rooms in
    let new = c.restore.new.self in
    let d = c.args.termination.now in
    let k = view c.self.inside in
    let sound = sound_if _ c.restore.ensures.consistent in
    let found = (c.if-not-restore.ensures.member refl).found in
    let limits = ap (λ (w : Registry). w.limits) c.if-not-restore.ensures.outcome ∙ restored_limits old d c.args.room in
    let lt = slot_fits c.self.inside new d.number d c.self.invariant sound limits found in
    let is = (sound.termination d.number d found).1 in
    let in_rows : d.slot < length k.sums.frames =
    omega (arith, is.slot, sound.consistent.limits.0.few_slots, c.begin_with.ensures.rows) in
    rw (← c.self.view_is, c.begin_with.ensures.restored) (put_quiet k new c.enter.new.flows c.enter.new.sums d
    c.args.media sound found c.restore.ensures.others.termination lt in_rows
    (c.enter.ensures.frames ∙ c.begin_with.ensures.silent) c.assert_ranges.ensures.fit.0 c.assert_ranges.ensures.fit.1
    (sym c.if-not-is_tick_of.ensures.value))

use Rattle.mg_engine.proofs.Common.{ℕ, None, arith, subst, ◌∙◌, view, subtracted, member_place, SetsRow, sound_if, refl}
use Rattle.mg_engine.proofs.EditLemmas.{has_stats, held_removed, removed_stands, gone, same_others, carry, hears_carry, has_left, hears_left, members_all, hears_all, joined_left, carry_seats, seated_all, on_its_place, subtract_removes, rises_less}
use Rattle.mg_engine.proofs.engine.Engine.subtract.Goals as goal

pub vacate-requires : goal.vacate-requires
vacate-requires c =
    let m = c.in_ok-gone.gone in
    record {
      held = (c.self.invariant.members.each c.args.number m.record (member_place m)
          (on_its_place c.self.inside.rooms c.args.number m c.in_ok-gone.ensures.member)).held;
    }

pub invariant_of-self-2 : goal.invariant_of-self-2
invariant_of-self-2 c =
    let old = c.self.inside.rooms in
    let new = c.subtract.new.self in
    let n = c.args.number in
    let m = c.in_ok-gone.gone in
    let d = m.record in
    let k = view c.self.inside in
    let before = c.self.invariant.sound in
    let sound = sound_if _ c.subtract.ensures.consistent in
    let a = subtract_removes old c.args.target n new d c.in_ok-gone.ensures.outcome in
    let others = c.in_ok-gone.ensures.others.termination in
    let was = on_its_place old n m c.in_ok-gone.ensures.member in
    let none = gone k new n d a before in
    let same = same_others old new n before sound c.subtract.ensures.lasts.room others in
    let members = members_all new n c.vacate.new.flows none (carry old new n c.vacate.new.flows same
    (has_left old n d (member_place m) c.self.inside.flows c.vacate.new.flows before was c.vacate.ensures.left
    c.self.invariant.members)) in
    let seats = seated_all new n c.self.inside.seating none
    (carry_seats old new n c.self.inside.seating same c.self.invariant.seats) in
    let apart = subst (λ (row : ℕ). SetsRow c.self.inside.sums.rooms c.part.new.sums.rooms row None) c.new.ensures
    c.part.ensures.rooms in
    let joined = joined_left old new n d c.self.inside.sums.rooms c.part.new.sums.rooms before same was.found
    none apart c.self.invariant.joined in
    record {
      sound = sound;
      limits = a.limits ∙ c.self.invariant.limits;
      media = c.self.invariant.media;
      held = held_removed k new n d c.self.inside.held.items c.without.new.held.items a before c.self.invariant.held
          c.without.ensures.value;
      members = members;
      seats = seats;
      places = c.self.invariant.places;
      row_count = c.part.ensures.rows;
      joined = joined;
    }

pub returns-clause-outcome : goal.returns-clause-outcome
returns-clause-outcome c w h =
    let old = c.self.inside.rooms in
    let new = c.subtract.new.self in
    let n = c.args.number in
    let m = c.in_ok-gone.gone in
    let d = m.record in
    let done = c.in_ok-gone.ensures.outcome in
    let k = view c.self.inside in
    let before = c.self.invariant.sound in
    let sound = sound_if _ c.subtract.ensures.consistent in
    let a = subtract_removes old c.args.target n new d done in
    let others = c.in_ok-gone.ensures.others.termination in
    let was = on_its_place old n m c.in_ok-gone.ensures.member in
    let same = same_others old new n before sound c.subtract.ensures.lasts.room others in
    let stands = rw (← c.self.view_is) at h in
    let hears = hears_all new n c.vacate.new.flows w.edits (gone k new n d a before)
    (hears_carry old new n c.vacate.new.flows w.edits same
    (hears_left old n d (member_place m) k.flows c.vacate.new.flows before was c.vacate.ensures.left w.edits
    stands.hears)) in (
      subtracted w new d,
      rw (stands.rooms, done) refl,
      removed_stands k new c.vacate.new.flows c.part.new.sums w n d a before others hears
          c.part.ensures.frames stands,
    )

pub returns-clause-stats : goal.returns-clause-stats
returns-clause-stats c w h = has_stats c.self.inside w c.args.number c.in_ok-gone.gone.record c.self.invariant
    (rw (← c.self.view_is) at h) c.in_ok-gone.ensures.member.found

pub returns-clause-work : goal.returns-clause-work
returns-clause-work c = rw (← c.self.view_is)
    (rises_less 1 4 c.self.inside.sums.work c.part.new.sums.work (omega arith) c.part.ensures.work)

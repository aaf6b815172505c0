use Rattle.mg_engine.proofs.Common.{ℕ, ◌+◌, cond, List, length, Option, Some, None, sym, ap, subst, ◌∙◌, arith, talks, sibling_place, SumsState, view}
use Rattle.mg_sums.specs.Sums.{AreOfRoom, left_out_by, mix_of}
use Rattle.mg_engine.proofs.MixLemmas.{IsLeftAndHeard, left_out, how_many, mix_is}
use Rattle.mg_engine.proofs.engine.Engine.mix.Goals as goal

pub silenced-requires : goal.silenced-requires
silenced-requires c =
    let l = c.args.listener.now in
    (c.self.invariant.members.each l.number l c.args.place (rw (← c.self.view_is) at c.requires.place)).held

pub rows_on-silenced-requires-clause-slots : goal.rows_on-silenced-requires-clause-slots
rows_on-silenced-requires-clause-slots c seat h =
    let p = c.args.place in
    let sound = c.self.invariant.sound in
    let (n, r, on) = c.self.invariant.members.nobody (sibling_place p seat) (c.silenced.ensures.held seat h) in
    let (number, limited) = sound.termination n r on.found in
    omega (arith, c.self.invariant.seats n r (sibling_place p seat) on, limited.slot, sound.consistent.limits.0.few_slots)

pub mix-requires : goal.mix-requires
mix-requires c =
    let k = view c.self.inside in
    let l = c.args.listener.now in
    let p = c.args.place in
    let on = rw (← c.self.view_is) at c.requires.place in
    let rows = c.as_slice.ensures.value ∙ c.rows_on-silenced.ensures.value in
    let out = left_out c.self.inside l p c.silenced.result.now c.self.invariant on c.requires.listens
    c.silenced.ensures.kept c.silenced.ensures.held in
    record {
      rows = subst (λ (room : ℕ). AreOfRoom k.sums.rooms room (left_out_by c.own_row.result c.as_slice.result.now))
          (sym c.new.ensures)
          (subst (λ (b : Option ℕ). AreOfRoom k.sums.rooms p.room (left_out_by b c.as_slice.result.now))
          (sym c.own_row.ensures.value) (subst (λ (m : List ℕ). AreOfRoom k.sums.rooms p.room
          (left_out_by (cond (talks l.mode) (Some l.slot) None) m)) (sym rows) out));
    }

pub returns-clause-value : goal.returns-clause-value
returns-clause-value c =
    let k = view c.self.inside in
    let l = c.args.listener.now in
    let p = c.args.place in
    let on = rw (← c.self.view_is) at c.requires.place in
    let own = c.own_row.ensures.value in
    let rows = c.as_slice.ensures.value ∙ c.rows_on-silenced.ensures.value in
    let heard = subst (λ (m : List ℕ). IsLeftAndHeard k.sums p.room
    (left_out_by (cond (talks l.mode) (Some l.slot) None) m)) rows
    (subst (λ (b : Option ℕ). IsLeftAndHeard k.sums p.room (left_out_by b c.as_slice.result.now)) own
    (subst (λ (room : ℕ). IsLeftAndHeard k.sums room (left_out_by c.own_row.result c.as_slice.result.now))
    c.new.ensures c.mix.ensures.heard)) in
    rw (← c.self.view_is) (c.mix.ensures.mix
    ∙ ap (λ (room : ℕ). mix_of k.sums room (left_out_by c.own_row.result c.as_slice.result.now)) c.new.ensures
    ∙ ap (λ (b : Option ℕ). mix_of k.sums p.room (left_out_by b c.as_slice.result.now)) own
    ∙ ap (λ (m : List ℕ). mix_of k.sums p.room (left_out_by (cond (talks l.mode) (Some l.slot) None) m)) rows
    ∙ mix_is c.self.inside l p c.silenced.result.now c.self.invariant on c.requires.listens c.silenced.ensures.kept
    c.silenced.ensures.held heard)

pub returns-clause-work : goal.returns-clause-work
returns-clause-work c =
    let l = c.args.listener.now in
    let p = c.args.place in
    let on = rw (← c.self.view_is) at c.requires.place in
    let count = ap (λ (xs : List ℕ). length xs) (c.as_slice.ensures.value ∙ c.rows_on-silenced.ensures.value) ∙
    how_many c.self.inside l p c.silenced.result.now c.self.invariant on c.requires.listens c.silenced.ensures.kept
    c.silenced.ensures.held in
    let now = ap (λ (s : SumsState). s.work) c.mix.ensures.kept in
    rw (← c.self.view_is) (1 + length c.as_slice.result.now, omega (arith, count), omega (arith, now))

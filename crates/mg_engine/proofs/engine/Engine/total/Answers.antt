use Rattle.mg_engine.proofs.Common.{◌<◌, ℕ, ℤ, Some, w32, sym, ap, ◌∙◌, arith, rules, context_at, total_of, view, to_z-of_z}
use Rattle.mg_engine.proofs.TotalLemmas.{context_with, total_is, total_there}
use Rattle.mg_engine.proofs.engine.Engine.total.Goals as goal

pub returns : goal.returns
returns c = record {
  value = λ w h.
      let k = view c.self.inside in
      let stands = rw (← c.self.view_is) at h in
      let lt : c.args.i < 160 = omega (arith, c.if-i-ge-SAMPLES.false) in
      let (x, found, room) = context_with (context_at k.rooms c.args.context) c.in_ok-room.room
      (sym c.room.ensures.value ∙ c.in_ok-room.was) in
      ap (λ (z : ℤ). Some z)
      (to_z-of_z w32 c.total.result.now (search rules)
      ∙ c.total.ensures.value ∙ ap (λ (at : ℕ). total_of k.sums at c.args.i) (c.new.ensures ∙ sym room)
      ∙ total_is c.self.inside w c.args.context c.args.i x c.self.invariant stands found)
      ∙ total_there k w c.args.context c.args.i x stands lt found;
}

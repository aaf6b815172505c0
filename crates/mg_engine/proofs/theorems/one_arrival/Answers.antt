use Rattle.mg_engine.proofs.Common.{◌≡◌, ℕ, List, refl, sym, ap, ◌∙◌, Reading, Taken, Takes, Gateway, IsPacketReading, taken}
use Rattle.mg_engine.proofs.theorems.one_arrival.Goals as goal

one_way : ((list : List ℕ) (a b : Reading) → IsPacketReading list a → IsPacketReading list b → a ≡ b) →
    (w : Gateway) (port : ℕ) (source list : List ℕ) (x y : Gateway) (a b : Taken) → Takes w port source list x a →
    Takes w port source list y b → (x ≡ y) × (a ≡ b)
one_way same w port source list x y a b h k =
    let e = sym h.2 ∙ ap (taken w port source) (same list h.0 k.0 h.1 k.1) ∙ k.2 in
    (ap (λ (p : Gateway × Taken). p.0) e, ap (λ (p : Gateway × Taken). p.1) e)

pub returns : goal.returns
returns c = record {
  some = λ w port source.
      let (r, is) = c.one_reading.ensures.some in
      let p = taken w port source r in (p.0, p.1, (r, is, refl));
  at_most_one = one_way c.one_reading.ensures.at_most_one;
}

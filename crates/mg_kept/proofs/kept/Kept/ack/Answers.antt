use Rattle.std.proofs.Common.{◌≡◌, length, drop, ap, ◌∙◌, arith}
use Rattle.mg_kept.proofs.PlaceLemmas.{written_back, some_stay}
use Rattle.mg_kept.proofs.kept.Kept.ack.Goals as goal

pub invariant_of-self : goal.invariant_of-self
invariant_of-self c =
    let after = c.drop_range-self-inside.new.places in
    let many : length after ≡ length c.self.inside.places.items = c.drop_range-self-inside.auto.places ∙
    ap length c.deref_mut.ensures.value in
    let long : length after ≡ c.self.inside.places.len = omega (arith, c.deref_mut.ensures.len) in
    rw (written_back c.self.inside.places.len after (drop (length after) c.self.inside.places.items) long)
    (some_stay c.self.inside.places.items after c.self.inside.len c.drop_range-self-inside.result c.args.sender.now
    c.args.first c.args.last
    c.self.invariant many c.drop_range-self-inside.ensures.within
    (rw c.deref_mut.ensures.value at c.drop_range-self-inside.ensures.front))

pub returns : goal.returns
returns c =
    let after = c.drop_range-self-inside.new.places in
    let long : length after ≡ c.self.inside.places.len =
    omega (arith, c.deref_mut.ensures.len, c.drop_range-self-inside.auto.places) in
    record {
      value = rw (
        written_back c.self.inside.places.len after (drop (length after) c.self.inside.places.items) long,
        ← c.self.view_is,
      )
          (rw c.deref_mut.ensures.value at c.drop_range-self-inside.ensures.front);
    }

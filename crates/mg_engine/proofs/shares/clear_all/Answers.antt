use Rattle.mg_engine.proofs.Common.{◌≤◌, [], length, replicate, sym, ◌∙◌, arith, get_or-replicate, get_or_default, length-replicate, same_lists}
use Rattle.mg_engine.proofs.shares.clear_all.Goals as goal

pub returns : goal.returns
returns c =
    let items = c.loop-i.rooms.items in
    let n = length c.args.rooms.now.items in
    let all : n ≤ c.loop-i.i = omega (arith, c.loop-i-test.false, c.loop-i.invariant.long) in
    record {
      value = same_lists items (replicate n []) (c.loop-i.invariant.long ∙ sym (length-replicate n []))
          (λ k e lt. get_or_default items k e [] lt ∙
          c.loop-i.invariant.done k (omega (arith, lt, all, c.loop-i.invariant.long)) ∙
          sym (get_or-replicate n k [] e (omega (arith, lt, c.loop-i.invariant.long))));
    }

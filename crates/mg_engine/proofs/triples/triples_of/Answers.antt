use Rattle.mg_engine.proofs.Common.{◌+◌, List, take, sym, refl, subst, arith, Any, Triple, Overlaps, members_at, AreMatched}
use Rattle.mg_engine.proofs.TripleLemmas.{checked_to, matched_to, none_overlaps}
use Rattle.mg_engine.proofs.triples.triples_of.Goals as goal

pub loop-triple-preserved : goal.loop-triple-preserved
loop-triple-preserved g c =
    let w = c.args.rooms.now in
    let at = c.args.at.context in
    let members = members_at w at in
    let xs = c.args.triples.now in
    let i = c.loop-triple.triple-index in
    let y = c.in_ok-triple_of.field-0 in
    let before = c.loop-triple.invariant in
    let (checked, matched, none) = c.in_ok-triple_of.ensures.value in record {
      checked = checked_to members xs i _ _ c.loop-triple-test.true refl before.checked checked;
      matched = subst (λ (ys : List Triple). AreMatched w at members (take (i + 1) xs) ys) (sym c.push.ensures.items)
          (matched_to w at members xs c.loop-triple.by_seats.items i _ _ y c.loop-triple-test.true refl before.matched
          matched);
      none = subst (λ (ys : List Triple). ¬ Any Overlaps ys) (sym c.push.ensures.items)
          (none_overlaps c.loop-triple.by_seats.items y before.none none);
      count = omega (arith, c.push.ensures.len, before.count);
    }

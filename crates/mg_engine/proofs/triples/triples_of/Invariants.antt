use Rattle.mg_engine.proofs.Common.{◌≡◌, length, take, drop, Any, Overlaps, members_at, check_triples, AreMatched}
use Rattle.mg_engine.proofs.triples.triples_of.Given as goal

abbrev pub invariant-loop-triple : goal.invariant-loop-triple
invariant-loop-triple g l = record {
  checked : check_triples (members_at l.rooms l.at.context) l.triples ≡
      check_triples (members_at l.rooms l.at.context) (drop l.triple-index l.triples);
  matched : AreMatched l.rooms l.at.context (members_at l.rooms l.at.context) (take l.triple-index l.triples)
      l.by_seats.items;
  none : ¬ Any Overlaps l.by_seats.items;
  count : length l.by_seats.items ≡ l.triple-index;
}

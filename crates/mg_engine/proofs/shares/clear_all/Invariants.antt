use Rattle.mg_engine.proofs.Common.{◌≡◌, ℕ, ◌<◌, [], get_or, length}
use Rattle.mg_engine.proofs.shares.clear_all.Given as goal

abbrev pub invariant-loop-i : goal.invariant-loop-i
invariant-loop-i l = record {
  long : length l.rooms.items ≡ length l.initial.rooms.items;
  done : (k : ℕ) → k < l.i → get_or l.rooms.items k [] ≡ [];
}

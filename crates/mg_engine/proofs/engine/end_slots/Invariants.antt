use Rattle.mg_engine.proofs.Common.{◌≡◌, ℕ, ◌<◌, ◌≤◌, get_or, length, media_at, IsEnded}
use Rattle.mg_engine.proofs.engine.end_slots.Given as goal

abbrev pub invariant-loop-slot : goal.invariant-loop-slot
invariant-loop-slot l = record {
  long : length l.media.items ≡ length l.fn.media.items;
  done : (j : ℕ) → j < l.slot-index → IsEnded l.rooms l.fn.media.items l.media.items (get_or l.held j 0);
  rest : (j : ℕ) → l.slot-index ≤ j → j < length l.held →
      media_at l.media.items (get_or l.held j 0) ≡ media_at l.fn.media.items (get_or l.held j 0);
}

use Rattle.mg_engine.proofs.Common.{◌≡◌, ℕ, ◌<◌, ◌≤◌, ◌*◌, get_or, length, take, count_by, media_at, RisesAtMost, IsPlayed}
use Rattle.mg_engine.proofs.ConcealLemmas.{conceals_slot}
use Rattle.mg_engine.proofs.engine.play_slots.Given as goal

abbrev pub invariant-loop-slot : goal.invariant-loop-slot
invariant-loop-slot l = record {
  long : length l.media.items ≡ length l.fn.media.items;
  done : (j : ℕ) → j < l.slot-index → IsPlayed l.fn.media.items l.media.items l.sums.frames (get_or l.held j 0);
  rest : (j : ℕ) → l.slot-index ≤ j → j < length l.held →
      media_at l.media.items (get_or l.held j 0) ≡ media_at l.fn.media.items (get_or l.held j 0);
  rooms : l.sums.rooms ≡ l.fn.sums.rooms;
  concealed : l.concealed ≡ count_by (conceals_slot l.fn.media.items) (take l.slot-index l.held);
  work : RisesAtMost (2 * l.slot-index) l.fn.sums.work l.sums.work;
}

use Rattle.mg_rooms.proofs.Common.{◌≡◌, ℕ, ◌<◌, ◌&&◌, ◌==◌, true, get_or, take, length, list_any, MEMBER_LIMIT, passes_at}
use Rattle.mg_rooms.proofs.entries.held_seats.Given as goal

abbrev pub invariant-loop-entry : goal.invariant-loop-entry
invariant-loop-entry l = record {
  long : length l.held ≡ MEMBER_LIMIT;
  held : (seat : ℕ) → seat < MEMBER_LIMIT → get_or l.held seat true ≡
      list_any (passes_at (λ r. (r.context == l.context) && (r.seat == seat))) (take l.entry-index l.slots);
}

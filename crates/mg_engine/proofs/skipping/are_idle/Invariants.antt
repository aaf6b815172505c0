use Rattle.mg_engine.proofs.Common.{ℕ, ◌<◌, get_or, IsIdleSlot}
use Rattle.mg_engine.proofs.skipping.are_idle.Given as goal

abbrev pub invariant-loop-slot : goal.invariant-loop-slot
invariant-loop-slot l = (j : ℕ) → j < l.slot-index → IsIdleSlot l.media l.sums.frames (get_or l.held j 0)

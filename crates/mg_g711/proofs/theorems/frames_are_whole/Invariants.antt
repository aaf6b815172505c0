use Rattle.std.proofs.Common.{ℕ, ◌<◌, pos, get_or, FitsSigned, w16}
use Rattle.mg_g711.proofs.theorems.frames_are_whole.Given as goal

abbrev pub invariant-loop-i : goal.invariant-loop-i
invariant-loop-i l = (k : ℕ) → k < l.i → FitsSigned w16 (get_or l.samples k (pos 0))

use Rattle.std.proofs.Common.{◌≡◌, ℕ, ◌<◌, pos, length, get_or, take, map}
use Rattle.std.specs.Prelude.{FitsSigned}
use Rattle.std.specs.Int.{w16}
use Rattle.mg_g711.specs.Frame.{halved}
use Rattle.mg_g711.proofs.frame.halve_frame.Given as goal

abbrev pub invariant-loop-i : goal.invariant-loop-i
invariant-loop-i l =
    (length l.halves ≡ 160) × (take l.i l.halves ≡ map halved (take l.i l.samples)) ×
    ((k : ℕ) → k < l.i → FitsSigned w16 (get_or l.halves k (pos 0)))

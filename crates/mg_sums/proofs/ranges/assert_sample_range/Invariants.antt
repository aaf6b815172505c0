use Rattle.std.proofs.Common.{ℕ, ◌<◌, FitsSigned}
use Rattle.std.specs.Int.{w16}
use Rattle.mg_sums.specs.Samples.{sample}
use Rattle.mg_sums.proofs.ranges.assert_sample_range.Given as goal

abbrev pub invariant-loop-i : goal.invariant-loop-i
invariant-loop-i l = (k : ℕ) → k < l.i → FitsSigned w16 (sample l.row k)

use Rattle.std.proofs.Common.{ℕ, ◌<◌, FitsSigned}
use Rattle.std.specs.Int.{w32}
use Rattle.mg_sums.specs.Samples.{sample}
use Rattle.mg_sums.proofs.ranges.assert_sum_range.Given as goal

abbrev pub invariant-loop-i : goal.invariant-loop-i
invariant-loop-i l = (k : ℕ) → k < l.i → FitsSigned w32 (sample l.row k)

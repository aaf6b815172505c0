use Rattle.std.proofs.Common.{◌*◌}
use Rattle.mg_sums.specs.Samples.{nearest_sample, sample}
use Rattle.mg_g711.proofs.Chunks.{DoneTo}
use Rattle.mg_sums.proofs.kernels.limit.Given as goal

abbrev pub invariant-loop-i : goal.invariant-loop-i
invariant-loop-i l = DoneTo (8 * l.i) (λ k. nearest_sample (sample l.sums k)) l.fn.samples l.samples

abbrev pub invariant-loop-i-2 : goal.invariant-loop-i-2
invariant-loop-i-2 l = DoneTo l.i (λ k. nearest_sample (sample l.sums k)) l.fn.samples l.samples

use Rattle.std.proofs.Common.{◌*◌, ◌-ℤ◌, ◌+ℤ◌}
use Rattle.mg_sums.specs.Samples.{sample}
use Rattle.mg_g711.proofs.Chunks.{DoneTo}
use Rattle.mg_sums.proofs.kernels.change_row.Given as goal

abbrev pub invariant-loop-i : goal.invariant-loop-i
invariant-loop-i l = DoneTo (8 * l.i) (λ k. sample l.fn.total k -ℤ sample l.old k +ℤ sample l.new k) l.fn.total l.total

abbrev pub invariant-loop-i-2 : goal.invariant-loop-i-2
invariant-loop-i-2 l = DoneTo l.i (λ k. sample l.fn.total k -ℤ sample l.old k +ℤ sample l.new k) l.fn.total l.total

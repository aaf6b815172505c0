use Rattle.std.proofs.Common.{◌≡◌, ℕ, ◌<◌, ◌+◌, ◌*◌, ◌-ℤ◌, take}
use Rattle.mg_sums.specs.Samples.{sample, sum_of}
use Rattle.mg_sums.specs.Sums.{sample_in, left_out_by}
use Rattle.mg_sums.specs.aids.Sums.{work_after}
use Rattle.mg_sums.specs.aids.Totals.{total_limit, AreNear}
use Rattle.mg_sums.proofs.sums.write_rest.Given as goal

abbrev pub invariant-loop-row : goal.invariant-loop-row
invariant-loop-row l = record {
  sums : (i : ℕ) → i < 160 → sample l.rest i ≡
      sample l.total i -ℤ sum_of (sample_in l.frames i) (left_out_by l.fn.base (take l.row-index l.minus));
  near : AreNear (total_limit + 32768 * (l.row-index + 1)) l.rest;
  work : l.work ≡ work_after (1 + l.row-index) l.fn.work;
}

use Rattle.std.proofs.Common.{◌≡◌, replicate}
use Rattle.mg_sums.specs.Samples.{silence}
use Rattle.mg_sums.proofs.sums.silent_frames.Given as goal

abbrev pub invariant-loop-row : goal.invariant-loop-row
invariant-loop-row l = l.frames.items ≡ replicate l._row silence

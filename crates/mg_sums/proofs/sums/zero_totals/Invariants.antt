use Rattle.std.proofs.Common.{◌≡◌, replicate}
use Rattle.mg_sums.specs.Samples.{silence}
use Rattle.mg_sums.proofs.sums.zero_totals.Given as goal

abbrev pub invariant-loop-room : goal.invariant-loop-room
invariant-loop-room l = l.totals.items ≡ replicate l._room silence

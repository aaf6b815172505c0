use Rattle.std.proofs.Common.{◌≡◌, ◌*◌, length, get_or}
use Rattle.mg_g711.specs.Law.{sample_of}
use Rattle.mg_g711.proofs.Chunks.{DoneTo}
use Rattle.mg_g711.proofs.frame.decode_frame.Given as goal

abbrev pub invariant-loop-i : goal.invariant-loop-i
invariant-loop-i l = record {
  whole : length l.samples ≡ 160;
  each : DoneTo (16 * l.i) (λ k. sample_of l.law (get_or l.bytes k 0)) l.initial.samples l.samples;
}

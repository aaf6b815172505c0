use Rattle.std.proofs.Common.{◌≡◌, length, take, map}
use Rattle.mg_g711.specs.Law.{byte_of}
use Rattle.mg_g711.proofs.frame.encode_frame.Given as goal

abbrev pub invariant-loop-i : goal.invariant-loop-i
invariant-loop-i l = (length l.bytes ≡ 160) × (take l.i l.bytes ≡ map (byte_of l.law) (take l.i l.samples))

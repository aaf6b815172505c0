use Rattle.std.proofs.Common.{arith, pos, FitsSigned, w16}
use Rattle.std.proofs.lemmas.List.Elements.{All-from_get_or}
use Rattle.mg_g711.proofs.theorems.frames_are_whole.Goals as goal

pub returns : goal.returns
returns c = record {
  whole = c.told-samples;
  in_range = All-from_get_or (FitsSigned w16) c.args.samples.now (pos 0)
      (λ k below. c.loop-i.invariant k (omega arith));
}

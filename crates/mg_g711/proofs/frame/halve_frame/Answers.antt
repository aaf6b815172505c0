use Rattle.std.proofs.Common.{arith, pos}
use Rattle.std.specs.Prelude.{FitsSigned}
use Rattle.std.specs.Int.{w16}
use Rattle.std.proofs.lemmas.List.Elements.{All-from_get_or}
use Rattle.mg_g711.proofs.frame.halve_frame.Goals as goal

pub returns-clause-frame : goal.returns-clause-frame
returns-clause-frame c = record {
  whole = c.loop-i.invariant.0;
  in_range = All-from_get_or (FitsSigned w16) c.loop-i.halves (pos 0) (λ k below. c.loop-i.invariant.2 k (omega arith));
}

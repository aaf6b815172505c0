use Rattle.mg_serve.proofs.FenceProofs.{no_lower_number, number_said}
use Rattle.mg_serve.proofs.theorems.no_lower_number_is_run.Goals as goal

pub returns : goal.returns
returns c = record {
  theorem = no_lower_number c.readings_are_unique.ensures.theorem;
  renewals = number_said c.readings_are_unique.ensures.theorem;
}

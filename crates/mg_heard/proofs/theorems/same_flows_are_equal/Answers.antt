use Rattle.mg_heard.proofs.SameLemmas.{same}
use Rattle.mg_heard.proofs.theorems.same_flows_are_equal.Goals as goal

pub returns : goal.returns
returns c = record { theorem = λ a b. same a b }

use Rattle.mg_text.proofs.ReadLemmas.{at_most_one}
use Rattle.mg_text.proofs.theorems.one_tree.Goals as goal

pub returns : goal.returns
returns c = record { theorem = at_most_one }

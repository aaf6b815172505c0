use Rattle.mg_heard.proofs.MaximalLemmas as maximal
use Rattle.mg_heard.proofs.theorems.intervals_are_true_and_maximal.Goals as goal

pub returns : goal.returns
returns c = record { theorem = maximal.intervals_are_true_and_maximal }

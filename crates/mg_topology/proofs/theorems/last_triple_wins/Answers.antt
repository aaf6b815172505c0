use Rattle.mg_topology.proofs.EditLemmas.{last_word-applied}
use Rattle.mg_topology.proofs.theorems.last_triple_wins.Goals as goal

pub returns : goal.returns
returns c = last_word-applied

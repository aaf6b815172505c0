use Rattle.mg_pacer.proofs.DueLemmas as lemmas
use Rattle.mg_pacer.proofs.theorems.never_early.Goals as goal

pub returns : goal.returns
returns c = record { theorem = lemmas.never_early }

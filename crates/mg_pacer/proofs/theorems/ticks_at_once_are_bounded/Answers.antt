use Rattle.mg_pacer.proofs.DueLemmas as lemmas
use Rattle.mg_pacer.proofs.theorems.ticks_at_once_are_bounded.Goals as goal

pub returns : goal.returns
returns c = record { theorem = lemmas.bounded }

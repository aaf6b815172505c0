use Rattle.mg_sealing.proofs.TwiceLemmas as lemmas
use Rattle.mg_sealing.proofs.theorems.sealed_stays.Goals as goal

pub returns : goal.returns
returns c = record { theorem = lemmas.twice }

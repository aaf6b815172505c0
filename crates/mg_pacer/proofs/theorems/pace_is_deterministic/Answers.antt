use Rattle.mg_pacer.proofs.OneLemmas as lemmas
use Rattle.mg_pacer.proofs.theorems.pace_is_deterministic.Goals as goal

pub returns : goal.returns
returns c = record { theorem = lemmas.one_pace }

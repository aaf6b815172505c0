use Rattle.mg_engine.proofs.IsolationLemmas as lemmas
use Rattle.mg_engine.proofs.theorems.payloads_are_mixes.Goals as goal

pub returns : goal.returns
returns c = record { theorem = lemmas.payloads_are_mixes }

use Rattle.mg_engine.proofs.ApartLemmas as apart
use Rattle.mg_engine.proofs.IsolationLemmas as lemmas
use Rattle.mg_engine.proofs.theorems.packets_depend_on_heard.Goals as goal

pub returns : goal.returns
returns c = record { theorem = lemmas.packets_depend_on_heard; packets = apart.same_packets }

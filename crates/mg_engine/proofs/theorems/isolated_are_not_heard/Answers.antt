use Rattle.mg_engine.proofs.IsolationLemmas as lemmas
use Rattle.mg_engine.proofs.theorems.isolated_are_not_heard.Goals as goal

pub returns : goal.returns
returns c = record { flow = lemmas.isolated_are_not_heard; packets = lemmas.unheard_changes_no_packet }

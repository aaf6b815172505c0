use Rattle.mg_engine.proofs.IsolationLemmas as lemmas
use Rattle.mg_engine.proofs.theorems.none_hears_itself.Goals as goal

pub returns : goal.returns
returns c = record { flow = lemmas.none_hears_itself; packets = lemmas.own_speech_changes_no_packet }

use Rattle.mg_core.proofs.ResumeLemmas as resuming
use Rattle.mg_core.proofs.theorems.notes_have_events.Goals as goal

pub returns : goal.returns
returns c = record { theorem = resuming.notes_have_events }

use Rattle.mg_sealing.proofs.LawLemmas as laws
use Rattle.mg_sealing.proofs.theorems.changes_show.Goals as goal

pub returns : goal.returns
returns c = record { theorem = laws.changes_show }

use Rattle.mg_pacer.proofs.DueLemmas as lemmas
use Rattle.mg_pacer.proofs.theorems.all_ticks_are_accounted_for.Goals as goal

pub returns : goal.returns
returns c = record { theorem = lemmas.accounted }

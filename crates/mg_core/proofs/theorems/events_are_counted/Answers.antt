use Rattle.mg_core.proofs.CountingLemmas as counting
use Rattle.mg_core.proofs.theorems.events_are_counted.Goals as goal

pub returns : goal.returns
returns c = record { theorem = counting.events_are_counted }

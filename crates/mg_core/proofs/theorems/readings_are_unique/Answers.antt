use Rattle.mg_core.proofs.AnswerLemmas.{readings_are_unique}
use Rattle.mg_core.proofs.theorems.readings_are_unique.Goals as goal

pub returns : goal.returns
returns c = record { theorem = readings_are_unique c.one_reading.ensures.at_most_one }

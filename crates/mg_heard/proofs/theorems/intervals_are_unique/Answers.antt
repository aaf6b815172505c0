use Rattle.mg_heard.proofs.LawLemmas.{events_determine_intervals}
use Rattle.mg_heard.proofs.theorems.intervals_are_unique.Goals as goal

pub returns : goal.returns
returns c = record { theorem = events_determine_intervals c.outcomes_are_unique.ensures.event }

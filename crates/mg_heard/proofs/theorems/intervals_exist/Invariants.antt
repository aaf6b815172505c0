use Rattle.mg_heard.proofs.MomentLemmas.{HaveOutcomes}
use Rattle.mg_heard.proofs.theorems.intervals_exist.Given as goal

abbrev pub invariant-loop-event : goal.invariant-loop-event
invariant-loop-event l = HaveOutcomes l.events l.event-index

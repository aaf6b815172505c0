use Rattle.mg_heard.proofs.LawLemmas as laws
use Rattle.mg_heard.proofs.theorems.intervals_tell_the_flow.Goals as goal

pub returns : goal.returns
returns c = record {
  flow = laws.intervals_tell_the_flow c.outcomes_are_unique.ensures.event;
  truth = laws.intervals_tell_the_truth c.outcomes_are_unique.ensures.event;
}

use Rattle.mg_heard.proofs.LawLemmas as laws
use Rattle.mg_heard.proofs.theorems.no_pair_is_told_twice.Goals as goal

pub returns : goal.returns
returns c = record { theorem = laws.no_pair_is_told_twice c.worlds_are_consistent.ensures.theorem }

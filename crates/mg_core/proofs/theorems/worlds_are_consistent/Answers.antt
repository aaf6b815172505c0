use Rattle.mg_core.proofs.theorems.worlds_are_consistent.Goals as goal

pub returns : goal.returns
returns c = record {
  theorem = λ base events sent w is run. (c.bases_stay_bases.ensures.theorem base w events sent is run).0.rooms;
}

use Rattle.mg_audible.proofs.LawLemmas as laws
use Rattle.mg_audible.proofs.theorems.differences_are_speech.Goals as goal

pub returns : goal.returns
returns c = record {
  theorem = laws.differences_are_speech c.outcomes_are_unique.ensures.events c.worlds_are_consistent.ensures.theorem
      c.unheard_changes_nothing.ensures.lists;
}

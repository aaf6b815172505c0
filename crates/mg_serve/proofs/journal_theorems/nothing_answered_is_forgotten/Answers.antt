use Rattle.mg_serve.proofs.JournalAnswers.{nothing_is_forgotten}
use Rattle.mg_serve.proofs.journal_theorems.nothing_answered_is_forgotten.Goals as goal

pub returns : goal.returns
returns c = record {
  theorem = nothing_is_forgotten c.recordings_are_read.ensures.theorem;
}

use Rattle.std.proofs.Common.{◌∙◌, sym, ap}
use Rattle.mg_program.specs.Status.{status_of}
use Rattle.mg_program.proofs.EndLemmas.{fault_is_told}
use Rattle.mg_program.proofs.status.status_after.Goals.{in-Err, in_default}
use Rattle.mg_program.proofs.status.status_after.Goals as goal

pub returns-clause-quiet : goal.returns-clause-quiet
returns-clause-quiet g c done = elim c.match-outcome.branch [
  | in-Err w ↦ absurd (fault_is_told w.in-Err.fault
      (ap status_of (sym w.in-Err.is) ∙ (sym c.status_of.ensures.value ∙ done)))
  | in_default w ↦ w.errors-is
]

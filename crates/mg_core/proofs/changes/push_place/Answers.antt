use Rattle.mg_bytes.proofs.AppendedLemmas.{after}
use Rattle.mg_core.proofs.changes.push_place.Goals as goal

pub returns-clause-value : goal.returns-clause-value
returns-clause-value c = after _ _ _ _ _ c.push.ensures.value
    (after _ _ _ _ _ (rw c.from.ensures at c.push_number.ensures.value)
    (after _ _ _ _ _ c.push-2.ensures.value (rw c.from-2.ensures at c.push_number-2.ensures.value)))

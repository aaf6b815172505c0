use Rattle.std.proofs.Common.{codes, decimal}
use Rattle.mg_bytes.proofs.AppendedLemmas.{after}
use Rattle.mg_core.proofs.changes.push_context.Goals as goal

pub returns-clause-value : goal.returns-clause-value
returns-clause-value c = after _ _ _ (codes " moved to context ") (decimal c.args.context) c.push.ensures.value
    (rw c.from.ensures at c.push_number.ensures.value)

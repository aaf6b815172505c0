use Rattle.std.proofs.Common.{codes, decimal, ◌++◌}
use Rattle.mg_core.specs.Flows.{line_head}
use Rattle.mg_core.proofs.ChangeLemmas.{three_parts}
use Rattle.mg_core.proofs.changes.push_made.Goals as goal

pub returns-clause-value : goal.returns-clause-value
returns-clause-value c =
    let x = c.new.inside in
    rw (← c.new.view_is) (three_parts _ _ _ _ (line_head c.args.ticks x.number)
    (codes " made in context " ++ (decimal x.context ++ (codes " at port " ++ decimal x.port))) (codes "\n")
    c.push_head.ensures.value c.push_place.ensures.value c.push.ensures.value)

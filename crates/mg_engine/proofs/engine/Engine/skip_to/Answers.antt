use Rattle.mg_engine.proofs.Common.{view}
use Rattle.mg_engine.proofs.RestoringLemmas.{skipped_quiet, skipped_whole}
use Rattle.mg_engine.proofs.engine.Engine.skip_to.Goals as goal

pub invariant_of-self : goal.invariant_of-self
invariant_of-self c = skipped_whole c.self.inside c.skip_to.new.self c.args.termination c.args.context c.skip_to.result
    c.self.invariant c.skip_to.ensures.outcome c.skip_to.ensures.consistent

pub returns-clause-quiet : goal.returns-clause-quiet
returns-clause-quiet c = rw (← c.self.view_is) (skipped_quiet (view c.self.inside) c.skip_to.new.self c.args.termination
    c.args.context c.skip_to.result c.skip_to.ensures.outcome)

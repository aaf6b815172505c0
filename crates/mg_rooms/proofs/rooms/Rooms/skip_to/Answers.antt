use Rattle.mg_rooms.proofs.RestoreLemmas.{skips}
use Rattle.mg_rooms.proofs.rooms.Rooms.skip_to.Goals as goal

pub invariant_of-self : goal.invariant_of-self
invariant_of-self c = skips c.self.inside.tables c.skip_to.new.self c.args.termination c.args.context c.skip_to.result
    c.self.invariant c.skip_to.ensures.value c.skip_to.ensures.outcome

pub returns-clause-consistent : goal.returns-clause-consistent
returns-clause-consistent c = invariant_of-self c

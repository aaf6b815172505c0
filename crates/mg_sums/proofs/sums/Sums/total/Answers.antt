use Rattle.std.proofs.Common.{subst}
use Rattle.mg_sums.specs.aids.Sums.{AreValidSums}
use Rattle.mg_sums.proofs.TotalLemmas.{total_near}
use Rattle.mg_sums.proofs.sums.Sums.total.Goals as goal

pub returns-clause-near : goal.returns-clause-near
returns-clause-near c = total_near c.args.self.now c.args.room c.args.i
    (subst AreValidSums c.self.view_is c.self.invariant.valid)

use Rattle.std.proofs.Common.{arith}
use Rattle.mg_topology.proofs.EditLemmas.{one_way_alone}
use Rattle.mg_topology.proofs.theorems.associations.Goals as goal

pub returns-clause-oneway : goal.returns-clause-oneway
returns-clause-oneway c = λ es triple a b forward oneway apart. grind
    (arith, one_way_alone triple a b oneway apart forward)

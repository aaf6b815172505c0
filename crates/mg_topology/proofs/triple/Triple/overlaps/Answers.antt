use Rattle.mg_topology.proofs.TripleLemmas.{overlaps-is}
use Rattle.mg_topology.proofs.triple.Triple.overlaps.Goals as goal

pub returns-in-Oneway-clause-common : goal.returns-in-Oneway-clause-common
returns-in-Oneway-clause-common c = overlaps-is c.args.self.now

use Rattle.mg_topology.proofs.TripleLemmas.{overlaps-is, list_any-overlaps}
use Rattle.mg_topology.proofs.theorems.overlap_is_a_common_seat.Goals as goal

pub returns-clause-one : goal.returns-clause-one
returns-clause-one c = overlaps-is

pub returns-clause-any : goal.returns-clause-any
returns-clause-any c = list_any-overlaps

use Rattle.mg_topology.proofs.MaskLemmas.{has_seat-empty, has_seat-full, has_seat-above, same_mask}
use Rattle.mg_topology.proofs.theorems.masks_are_sets.Goals as goal

pub returns-clause-empty : goal.returns-clause-empty
returns-clause-empty c = has_seat-empty

pub returns-clause-full : goal.returns-clause-full
returns-clause-full c = has_seat-full

pub returns-clause-above : goal.returns-clause-above
returns-clause-above c = has_seat-above

pub returns-clause-same : goal.returns-clause-same
returns-clause-same c = same_mask

use Rattle.std.proofs.Common.{sym, ◌∙◌, arith}
use Rattle.std.proofs.lemmas.Bool.{false≢true}
use Rattle.mg_topology.proofs.MaskLemmas.{has_seat-empty, has_seat-inside}
use Rattle.mg_topology.proofs.TopologyLemmas.{stands_from}
use Rattle.mg_topology.proofs.topology.Topology.new.Goals as goal

pub returns : goal.returns
returns c =
    stands_from _ _ (λ s. sym (has_seat-inside 0 s (omega arith)) ∙ has_seat-empty s)
    (λ t l p q d. absurd (false≢true p))

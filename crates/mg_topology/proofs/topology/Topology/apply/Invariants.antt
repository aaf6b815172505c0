use Rattle.std.proofs.Common.{◌≡◌, List, take}
use Rattle.mg_topology.specs.Edits.{TopologyEdit}
use Rattle.mg_topology.specs.aids.Edits.{apply_all}
use Rattle.mg_topology.specs.aids.Topology.{StandsFor}
use Rattle.mg_topology.proofs.topology.Topology.apply.Given as goal

-- For each list that the topology represented at the start, it represents that list with the triples so far.
abbrev pub invariant-loop-triple : goal.invariant-loop-triple
invariant-loop-triple l = record {
  edits : (es : List TopologyEdit) → StandsFor l.fn.self es →
      StandsFor l.self (apply_all (take l.triple-index l.triples) es);
  held : l.self.held ≡ l.fn.self.held;
}

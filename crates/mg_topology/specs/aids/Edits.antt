-- Several triples as edits.
use Rattle.std.specs.Prelude.{List, [], ◌∷◌}
use Rattle.mg_topology.specs.declared.triple.Triple.{Triple}
use Rattle.mg_topology.specs.Edits.{TopologyEdit, Apply}

-- The edits followed by the triples in order.
abbrev pub apply_all : List Triple → List TopologyEdit → List TopologyEdit
apply_all [] es = es
apply_all (triple ∷ triples) es = apply_all triples (Apply triple ∷ es)

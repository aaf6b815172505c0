-- Several triples as edits of a room.
use Rattle.std.specs.Prelude.{ℕ, List, [], ◌∷◌}
use Rattle.mg_topology.specs.declared.triple.Triple.{Triple}
use Rattle.mg_flow.specs.Edits.{FlowEdit, Apply}

-- The edits followed by the triples in order.
abbrev pub apply_in_room : ℕ → List Triple → List FlowEdit → List FlowEdit
apply_in_room room [] es = es
apply_in_room room (triple ∷ triples) es = apply_in_room room triples (Apply room triple ∷ es)

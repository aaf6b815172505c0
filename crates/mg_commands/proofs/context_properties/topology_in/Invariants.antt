use Rattle.std.proofs.Common.{◌≡◌, drop}
use Rattle.mg_commands.specs.ContextProperties.{triples_in}
use Rattle.mg_commands.specs.Search.{first_of}
use Rattle.mg_commands.proofs.context_properties.topology_in.Given as goal

abbrev pub invariant-loop-property : goal.invariant-loop-property
invariant-loop-property l = first_of triples_in (drop l.property-index l.properties) ≡ first_of triples_in l.properties

use Rattle.std.proofs.Common.{◌≡◌, map, take}
use Rattle.mg_commands.specs.ContextProperties.{topology_triple_of}
use Rattle.mg_commands.proofs.context_properties.triples_of.Given as goal

abbrev pub invariant-loop-triple : goal.invariant-loop-triple
invariant-loop-triple g l = l.topology.items ≡ map (topology_triple_of l.source l.made) (take l.triple-index l.triples)

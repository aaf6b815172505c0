use Rattle.std.proofs.Common.{[], sym, ap, ◌∙◌}
use Rattle.std.specs.Option.{unwrap_or}
use Rattle.mg_commands.specs.ContextProperties.{triples_in}
use Rattle.mg_commands.proofs.PropertySteps.{not_here, found_here, nowhere, no_triples}
use Rattle.mg_commands.proofs.context_properties.topology_in.Goals as goal

pub returns-in-Topology : goal.returns-in-Topology
returns-in-Topology c = record {
  value = c.as_slice.ensures.value ∙ ap (λ o. unwrap_or o [])
      (found_here triples_in c.args.properties.now c.loop-property.property-index c.property-item.result _ _
      c.loop-property-test.true (ap triples_in (sym c.property-item.is ∙ c.in-Topology.is)) c.loop-property.invariant);
}

pub loop-property-preserved : goal.loop-property-preserved
loop-property-preserved c = not_here triples_in c.args.properties.now c.loop-property.property-index
    c.property-item.result _ c.loop-property-test.true
    (ap triples_in (sym c.property-item.is) ∙ no_triples c.property-item.result c.in_default.not-Topology)
    c.loop-property.invariant

pub returns : goal.returns
returns c = record {
  value = ap (λ o. unwrap_or o [])
      (nowhere triples_in c.args.properties.now c.loop-property.property-index _ c.loop-property-test.false
      c.loop-property.invariant);
}

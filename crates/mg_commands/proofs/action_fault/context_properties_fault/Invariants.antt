use Rattle.std.proofs.Common.{◌≡◌, [], take, drop}
use Rattle.mg_commands.specs.ContextProperties.{context_property_fault}
use Rattle.mg_commands.specs.Search.{first_after}
use Rattle.mg_commands.proofs.action_fault.context_properties_fault.Given as goal

abbrev pub invariant-loop-i : goal.invariant-loop-i
invariant-loop-i l = first_after context_property_fault (take l.i l.properties) (drop l.i l.properties) ≡
    first_after context_property_fault [] l.properties

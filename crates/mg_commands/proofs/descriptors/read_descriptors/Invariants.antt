use Rattle.mg_commands.specs.Part.{descriptor_parts}
use Rattle.mg_commands.specs.aids.Levels.{descriptor_level}
use Rattle.mg_commands.proofs.FindingLemmas.{HasWalked}
use Rattle.mg_commands.proofs.descriptors.read_descriptors.Given as goal

abbrev pub invariant-loop-i : goal.invariant-loop-i
invariant-loop-i l = HasWalked l.source (descriptor_level l.source) (descriptor_parts) l.descriptors l.i l.fn.found l.found

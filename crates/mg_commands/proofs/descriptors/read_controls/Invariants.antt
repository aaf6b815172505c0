use Rattle.std.proofs.Common.{[], ◌∷◌}
use Rattle.mg_commands.specs.declared.part.Part.TheVariants.{Control}
use Rattle.mg_commands.specs.aids.Levels.{control_level}
use Rattle.mg_commands.proofs.FindingLemmas.{HasWalked}
use Rattle.mg_commands.proofs.descriptors.read_controls.Given as goal

abbrev pub invariant-loop-i : goal.invariant-loop-i
invariant-loop-i l = HasWalked l.source (control_level l.source l.stream) (λ x. Control l.stream x ∷ []) l.parts l.i l.fn.found l.found

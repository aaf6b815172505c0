use Rattle.mg_checkpoint.specs.aids.Rebuilt.{KeepsQuiet}
use Rattle.mg_checkpoint.proofs.rebuilding.put_contexts.Given as goal

abbrev pub invariant-loop-context : goal.invariant-loop-context
invariant-loop-context l = KeepsQuiet l.initial.engine l.engine

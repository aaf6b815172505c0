use Rattle.mg_checkpoint.specs.aids.Rebuilt.{KeepsQuiet}
use Rattle.mg_checkpoint.proofs.rebuilding.mute_all.Given as goal

abbrev pub invariant-loop-line : goal.invariant-loop-line
invariant-loop-line l = KeepsQuiet l.initial.engine l.engine

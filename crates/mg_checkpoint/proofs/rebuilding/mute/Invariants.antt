use Rattle.mg_checkpoint.specs.aids.Rebuilt.{KeepsQuiet}
use Rattle.mg_checkpoint.proofs.rebuilding.mute.Given as goal

abbrev pub invariant-loop-talker : goal.invariant-loop-talker
invariant-loop-talker l = KeepsQuiet l.initial.engine l.engine

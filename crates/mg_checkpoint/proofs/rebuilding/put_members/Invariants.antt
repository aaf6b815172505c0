use Rattle.mg_checkpoint.specs.aids.Rebuilt.{KeepsQuiet}
use Rattle.mg_checkpoint.proofs.rebuilding.put_members.Given as goal

abbrev pub invariant-loop-member : goal.invariant-loop-member
invariant-loop-member l = KeepsQuiet l.initial.engine l.engine

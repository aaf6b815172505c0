use Rattle.std.proofs.Common.{◌≡◌, ◌++◌, take}
use Rattle.mg_checkpoint.specs.aids.Forms.{names}
use Rattle.mg_checkpoint.proofs.parts_writing.put_names.Given as goal

abbrev pub invariant-loop-n : goal.invariant-loop-n
invariant-loop-n l = l.out.items ≡ l.initial.out.items ++ names (take l.n-index l.numbers)

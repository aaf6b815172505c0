use Rattle.std.proofs.Common.{◌≡◌, ◌++◌, take}
use Rattle.mg_core.specs.Script.{escaped}
use Rattle.mg_checkpoint.proofs.parts_writing.put_rest_of_line.Given as goal

abbrev pub invariant-loop-b : goal.invariant-loop-b
invariant-loop-b l = l.out.items ≡ l.initial.out.items ++ escaped (take l.b-index l.bytes)

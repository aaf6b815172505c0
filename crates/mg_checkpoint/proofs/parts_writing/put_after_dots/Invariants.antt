use Rattle.std.proofs.Common.{◌≡◌, ◌++◌, drop}
use Rattle.mg_checkpoint.specs.aids.Forms.{after_dots}
use Rattle.mg_checkpoint.proofs.parts_writing.put_after_dots.Given as goal

abbrev pub invariant-loop-n : goal.invariant-loop-n
invariant-loop-n l =
    l.out.items ++ after_dots (drop l.n-index l.numbers) ≡ l.initial.out.items ++ after_dots l.numbers

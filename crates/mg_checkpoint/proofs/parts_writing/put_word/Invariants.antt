use Rattle.std.proofs.Common.{◌≡◌, ◌++◌, take}
use Rattle.std.specs.List.{flat_map}
use Rattle.mg_checkpoint.specs.aids.Forms.{word_escape}
use Rattle.mg_checkpoint.proofs.parts_writing.put_word.Given as goal

abbrev pub invariant-loop-b : goal.invariant-loop-b
invariant-loop-b l = l.out.items ≡ l.initial.out.items ++ flat_map word_escape (take l.b-index l.bytes)

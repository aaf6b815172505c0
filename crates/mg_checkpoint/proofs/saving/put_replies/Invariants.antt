use Rattle.std.proofs.Common.{◌≡◌, ◌++◌, take}
use Rattle.std.specs.List.{flat_map}
use Rattle.mg_checkpoint.specs.aids.Text.{reply_line}
use Rattle.mg_checkpoint.proofs.saving.put_replies.Given as goal

abbrev pub invariant-loop-place : goal.invariant-loop-place
invariant-loop-place l = l.out.items ≡ l.initial.out.items ++ flat_map reply_line (take l.place l.kept)

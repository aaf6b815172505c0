use Rattle.std.proofs.Common.{◌≡◌, ◌≤◌, ◌==◌, count_by, take}
use Rattle.mg_checkpoint.proofs.saving.feeds_in.Given as goal

abbrev pub invariant-loop-b : goal.invariant-loop-b
invariant-loop-b l = (l.feeds ≡ count_by (λ b. b == 10) (take l.b-index l.text)) × (l.feeds ≤ l.b-index)

use Rattle.std.proofs.Common.{◌≡◌, map, take}
use Rattle.mg_heard.proofs.roll.missing_of.Given as goal

abbrev pub invariant-loop-roll : goal.invariant-loop-roll
invariant-loop-roll l = l.missing.items ≡ map (λ r. r.missing) (take l.roll-index l.rolls)

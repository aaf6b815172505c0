use Rattle.std.proofs.Common.{◌≡◌, length}
use Rattle.mg_kept.proofs.kept.Kept.new.Given as goal

-- The number of places is the loop's counter.
abbrev pub invariant-loop : goal.invariant-loop
invariant-loop l = length l.places.items ≡ l.counter

use Rattle.std.proofs.Common.{◌≡◌, length}
use Rattle.mg_heard.proofs.rows.Rows.new.Given as goal

-- The loop has made `counter` places.
abbrev pub invariant-loop : goal.invariant-loop
invariant-loop l = length l.places.items ≡ l.counter

use Rattle.mg_rooms.proofs.Common.{◌≡◌, replicate, None}
use Rattle.mg_rooms.proofs.entries.empty_table.Given as goal

abbrev pub invariant-loop : goal.invariant-loop
invariant-loop g l = l.table.items ≡ replicate l.counter None

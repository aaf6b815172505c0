use Rattle.mg_engine.proofs.Common.{◌≡◌, replicate}
use Rattle.mg_engine.proofs.seating.Seating.new.Given as goal

abbrev pub invariant-loop : goal.invariant-loop
invariant-loop l = l.slots.items ≡ replicate l.counter 0

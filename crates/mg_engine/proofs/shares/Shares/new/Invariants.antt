use Rattle.mg_engine.proofs.Common.{◌≡◌, [], replicate}
use Rattle.mg_engine.proofs.shares.Shares.new.Given as goal

abbrev pub invariant-loop : goal.invariant-loop
invariant-loop l = l.rooms.items ≡ replicate l.counter []

use Rattle.mg_engine.proofs.Common.{◌≡◌, replicate, idle}
use Rattle.mg_engine.proofs.engine.idle_media.Given as goal

abbrev pub invariant-loop : goal.invariant-loop
invariant-loop l = l.media.items ≡ replicate l.counter idle

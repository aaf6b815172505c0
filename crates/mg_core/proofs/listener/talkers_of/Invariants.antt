use Rattle.std.proofs.Common.{◌≡◌, filter, map, take}
use Rattle.mg_engine.specs.Flow.{flow}
use Rattle.mg_core.specs.World.{World}
use Rattle.mg_core.specs.aids.Stands.{StandsFor}
use Rattle.mg_core.proofs.listener.talkers_of.Given as goal

abbrev pub invariant-loop-place : goal.invariant-loop-place
invariant-loop-place l = (w : World) → StandsFor l.core.state w → l.talkers.items ≡ filter (λ n. flow w.gateway n
    l.listener.number) (map (λ r. r.number) (take l.place l.core.state.engine.rooms.terminations))

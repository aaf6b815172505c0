use Rattle.std.proofs.Common.{◌≡◌, length, map, take}
use Rattle.mg_words.specs.Limits.{termination_limit}
use Rattle.mg_core.specs.Flows.{listener_of}
use Rattle.mg_core.specs.World.{World}
use Rattle.mg_core.specs.aids.Stands.{StandsFor}
use Rattle.mg_core.proofs.listeners.fill_places.Given as goal

abbrev pub invariant-loop-place : goal.invariant-loop-place
invariant-loop-place l = record {
  places : length l.places ≡ termination_limit;
  front : (w : World) → StandsFor l.core.state w → take l.place l.places ≡
      map (listener_of w.gateway) (take l.place l.core.state.engine.rooms.terminations);
}

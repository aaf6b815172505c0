use Rattle.std.proofs.Common.{◌≡◌, All, map, take}
use Rattle.mg_core.specs.World.{World}
use Rattle.mg_core.specs.aids.Stands.{StandsFor}
use Rattle.mg_heard.specs.aids.Hearers.{HearsTalkers, seated_of, seats_of}
use Rattle.mg_heard.proofs.hearer.hearers_of.Given as goal

abbrev pub invariant-loop-place : goal.invariant-loop-place
invariant-loop-place l = record {
  seated : seats_of l.hearers.items ≡ map seated_of (take l.place l.core.state.engine.rooms.terminations);
  talkers : (w : World) → StandsFor l.core.state w → All (HearsTalkers w.gateway) l.hearers.items;
}

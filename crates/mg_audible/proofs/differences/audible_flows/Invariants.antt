use Rattle.std.proofs.Common.{◌≡◌, ◌≤◌, length, take}
use Rattle.mg_core.specs.World.{World, packets_of, world_after_tick}
use Rattle.mg_core.specs.aids.Stands.{StandsFor}
use Rattle.mg_audible.proofs.FlowLemmas.{flows_among}
use Rattle.mg_audible.proofs.differences.audible_flows.Given as goal

abbrev pub invariant-loop-place : goal.invariant-loop-place
invariant-loop-place l = record {
  few : length l.flows.items ≤ l.place;
  flows : (v w : World) → StandsFor l.whole.state (world_after_tick v) → l.whole.outbox ≡ packets_of v →
      l.without.outbox ≡ packets_of w →
      l.flows.items ≡ flows_among l.fn.talker v w (take l.place l.whole.state.engine.rooms.terminations);
}

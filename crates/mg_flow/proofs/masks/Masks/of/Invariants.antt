use Rattle.std.proofs.Common.{◌≡◌, ℕ, ◌<◌, length, slice_index}
use Rattle.mg_topology.specs.Mask.{seat_limit, has_seat}
use Rattle.mg_flow.specs.aids.RoomFlows.{flows_to, is_blocked_for}
use Rattle.mg_flow.proofs.masks.Masks.of.Given as goal

-- The masks of the listeners so far are written.
abbrev pub invariant-loop-listener : goal.invariant-loop-listener
invariant-loop-listener l = record {
  open_length : length l.open ≡ seat_limit;
  silenced_length : length l.silenced ≡ seat_limit;
  flows : (talker k : ℕ) → k < l.listener → has_seat (slice_index l.open k) talker ≡
      flows_to l.topology l.talks l.listens talker k;
  kept : (talker k : ℕ) → k < l.listener → has_seat (slice_index l.silenced k) talker ≡
      is_blocked_for l.topology l.talks talker k;
}

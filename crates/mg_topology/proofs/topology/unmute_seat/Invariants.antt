use Rattle.std.proofs.Common.{◌≡◌, ℕ, ◌<◌, ◌≤◌, slice_index, true, ◌==◌, if◌then◌else◌}
use Rattle.mg_topology.specs.Mask.{has_seat}
use Rattle.mg_topology.proofs.topology.unmute_seat.Given as goal

-- The rows below the index are updated, and the others are unchanged.
abbrev pub invariant-loop-row : goal.invariant-loop-row
invariant-loop-row l = record {
  done : (s k : ℕ) → k < l.row-index → has_seat (slice_index l.rows k) s ≡
      (if s == l.seat then true else has_seat (slice_index l.fn.rows k) s);
  rest : (k : ℕ) → l.row-index ≤ k → slice_index l.rows k ≡ slice_index l.fn.rows k;
}

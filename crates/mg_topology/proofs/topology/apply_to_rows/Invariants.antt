use Rattle.std.proofs.Common.{◌≡◌, ℕ, ◌<◌, ◌≤◌, slice_index}
use Rattle.mg_topology.specs.Mask.{has_seat}
use Rattle.mg_topology.specs.aids.Word.{after_triple}
use Rattle.mg_topology.proofs.topology.apply_to_rows.Given as goal

-- The rows below the index are updated, and the others are unchanged.
abbrev pub invariant-loop-listener : goal.invariant-loop-listener
invariant-loop-listener l = record {
  done : (s k : ℕ) → k < l.listener → has_seat (slice_index l.rows k) s ≡
      after_triple l.triple s k (has_seat (slice_index l.fn.rows k) s);
  rest : (k : ℕ) → l.listener ≤ k → slice_index l.rows k ≡ slice_index l.fn.rows k;
}

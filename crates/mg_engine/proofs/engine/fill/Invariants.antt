use Rattle.mg_engine.proofs.Common.{◌≡◌, ◌≤◌, length, take, filter_map, sum_by, option_map, sent_to, RisesAtMost, packet_now, sending_work_now, with_mixes, AreShared}
use Rattle.mg_engine.proofs.engine.fill.Given as goal

abbrev pub invariant-loop-i : goal.invariant-loop-i
invariant-loop-i l = record {
  same : l.engine ≡ with_mixes l.fn.engine l.engine.sums.work l.engine.shares;
  items : l.outbox.items ≡ filter_map (λ r. option_map (packet_now l.fn.engine r) (sent_to r))
      (take l.i l.fn.engine.rooms.terminations);
  few : length l.outbox.items ≤ l.i;
  shared : AreShared l.engine l.outbox.items;
  work : RisesAtMost (sum_by (sending_work_now l.fn.engine) (take l.i l.fn.engine.rooms.terminations))
      l.fn.engine.sums.work l.engine.sums.work;
}

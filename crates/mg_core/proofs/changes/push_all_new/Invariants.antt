use Rattle.std.proofs.Common.{◌≡◌, ◌*◌, ◌≤◌, length, take, flat_map}
use Rattle.mg_bytes.specs.Bytes.{appended}
use Rattle.mg_core.specs.Flows.{lines_of_new, listener_at}
use Rattle.mg_core.proofs.changes.push_all_new.Given as goal

abbrev pub invariant-loop-new : goal.invariant-loop-new
invariant-loop-new l = record {
  value : l.out ≡ appended l.initial.out
      (flat_map (λ x. lines_of_new l.ticks (listener_at l.before x.number) x) (take l.new-index l.after));
  short : length (flat_map (λ x. lines_of_new l.ticks (listener_at l.before x.number) x) (take l.new-index l.after))
      ≤ 1854 * l.new-index;
}

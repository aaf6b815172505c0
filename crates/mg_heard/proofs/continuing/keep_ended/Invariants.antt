use Rattle.std.proofs.Common.{◌≤◌, length}
use Rattle.mg_heard.specs.aids.Opening.{IsRising}
use Rattle.mg_heard.proofs.ContinueLemmas.{Keeps}
use Rattle.mg_heard.proofs.continuing.keep_ended.Given as goal

abbrev pub invariant-loop-place : goal.invariant-loop-place
invariant-loop-place l = record {
  within : l.from ≤ length l.next;
  behind : l.kept ≤ l.place;
  walked : IsRising l.fn.intervals → IsRising l.next → Keeps l.next l.fn.intervals l.intervals l.from l.kept l.place;
}

use Rattle.std.proofs.Common.{◌≤◌, length}
use Rattle.mg_heard.specs.aids.Opening.{IsRising}
use Rattle.mg_heard.proofs.ContinueLemmas.{Continues}
use Rattle.mg_heard.proofs.continuing.continue_each.Given as goal

abbrev pub invariant-loop-place : goal.invariant-loop-place
invariant-loop-place l = record {
  within : l.from ≤ length l.earlier;
  walked : IsRising l.fn.intervals → IsRising l.earlier → Continues l.earlier l.fn.intervals l.intervals l.from l.place;
}

use Rattle.std.proofs.Common.{◌≡◌, ◌+◌, ◌*◌, codes, drop, length}
use Rattle.mg_core.specs.aids.Resuming.{IsAfterCopies}
use Rattle.mg_core.proofs.resumer.leading_ticks.Given as goal

abbrev pub invariant-loop-next : goal.invariant-loop-next
invariant-loop-next l = record {
  ticks : IsAfterCopies (codes "tick") l.count l.text l.rest;
  rest : l.rest ≡ drop (5 * l.count) l.text;
  within : 5 * l.count + length l.rest ≡ length l.text;
}

abbrev pub decreases-loop-next : goal.decreases-loop-next
decreases-loop-next l = length l.rest

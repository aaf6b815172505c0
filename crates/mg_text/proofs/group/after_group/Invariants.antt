use Rattle.std.proofs.Common.{◌≡◌, ◌≤◌, drop}
use Rattle.mg_text.specs.aids.Reading.{after_group}
use Rattle.mg_text.proofs.group.after_group.Given as goal

abbrev pub invariant-loop-i : goal.invariant-loop-i
invariant-loop-i l = record {
  small : l.depth ≤ l.i;
  same : after_group l.source l.depth (drop l.i l.tokens) ≡ after_group l.source 0 l.tokens;
}

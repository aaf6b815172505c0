use Rattle.std.proofs.Common.{◌≡◌, drop}
use Rattle.mg_text.specs.aids.Text.{is_within}
use Rattle.mg_text.proofs.reading.is_within.Given as goal

abbrev pub invariant-loop-item : goal.invariant-loop-item
invariant-loop-item l = is_within l.requests l.commands (drop l.item-index l.items) ≡ is_within 4 64 l.items

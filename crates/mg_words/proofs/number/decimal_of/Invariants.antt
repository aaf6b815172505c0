use Rattle.std.proofs.Common.{◌≡◌, ◌≤◌, drop}
use Rattle.mg_words.specs.Numbers.{decimal_of}
use Rattle.mg_words.proofs.DigitSteps.{value_after}
use Rattle.mg_words.proofs.number.decimal_of.Given as goal

abbrev pub invariant-loop-b : goal.invariant-loop-b
invariant-loop-b l = record {
  small : l.value ≤ l.limit;
  same : value_after l.limit l.value (drop l.b-index l.text) ≡ decimal_of l.most l.limit l.text;
}

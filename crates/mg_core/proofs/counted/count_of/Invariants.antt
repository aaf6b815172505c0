use Rattle.std.proofs.Common.{◌≡◌, ◌≤◌, drop}
use Rattle.mg_words.specs.Numbers.{decimal_of}
use Rattle.mg_words.proofs.DigitSteps.{value_after}
use Rattle.mg_core.proofs.counted.count_of.Given as goal

abbrev pub invariant-loop-b : goal.invariant-loop-b
invariant-loop-b l = record {
  small : l.value ≤ 18446744073709551615;
  same : value_after 18446744073709551615 l.value (drop l.b-index l.digits) ≡
      decimal_of 20 18446744073709551615 l.digits;
}

use Rattle.std.proofs.Common.{take}
use Rattle.std.specs.List.{AllZip}
use Rattle.mg_heard.specs.Asked.{IsRule}
use Rattle.mg_heard.proofs.asked_rule.rules_of.Given as goal

abbrev pub invariant-loop-one : goal.invariant-loop-one
invariant-loop-one l = AllZip (IsRule l.names) (take l.one-index l.asked) l.rules.items

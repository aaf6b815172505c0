use Rattle.std.proofs.Common.{take}
use Rattle.mg_heard.specs.aids.Calling.{AreFor}
use Rattle.mg_heard.proofs.roll.rolls_of.Given as goal

abbrev pub invariant-loop-rule : goal.invariant-loop-rule
invariant-loop-rule l = AreFor (take l.rule-index l.rules) l.rolls.items

use Rattle.std.proofs.Common.{◌≡◌, drop}
use Rattle.mg_text.specs.Message.{action_commands}
use Rattle.mg_text.specs.aids.Text.{left_after}
use Rattle.mg_text.proofs.reading.left_after.Given as goal

abbrev pub invariant-loop-action : goal.invariant-loop-action
invariant-loop-action l = left_after l.left (action_commands (drop l.action-index l.actions)) ≡
    left_after l.most (action_commands l.actions)

use Rattle.mg_heard.proofs.CallingLemmas.{called_ticks, with_called}
use Rattle.mg_heard.proofs.attended.AttendedFollower.ticks.Goals as goal

pub returns-clause-value : goal.returns-clause-value
returns-clause-value g c start base notes (h, k) run = with_called c.ticks.result _ _
    (c.ticks.ensures.value start.follower base notes h run)
    (called_ticks c.only_control_changes_flows.ensures.terminations base notes c.args.count start.rolls.items
    c.args.self.now.rolls.items k)

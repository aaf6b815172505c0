use Rattle.mg_heard.proofs.CallingLemmas.{called_comment, with_called}
use Rattle.mg_heard.proofs.attended.AttendedFollower.comment.Goals as goal

pub returns-clause-value : goal.returns-clause-value
returns-clause-value g c start base notes (h, k) = with_called c.comment.result _ _
    (c.comment.ensures.value start.follower base notes h)
    (called_comment base notes c.args.line.now start.rolls.items c.args.self.now.rolls.items k)

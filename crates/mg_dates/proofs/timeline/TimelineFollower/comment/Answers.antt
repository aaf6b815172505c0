use Rattle.mg_dates.proofs.TimeLemmas.{timeline_comment}
use Rattle.mg_dates.proofs.timeline.TimelineFollower.comment.Goals as goal

pub returns-clause-value : goal.returns-clause-value
returns-clause-value c start base notes is =
    timeline_comment notes c.args.line.now c.args.self.now c.pass_comment.new.self is c.pass_comment.ensures.value

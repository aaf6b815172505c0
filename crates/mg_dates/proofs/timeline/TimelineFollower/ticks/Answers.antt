use Rattle.mg_dates.proofs.TimeLemmas.{timeline_more}
use Rattle.mg_dates.proofs.timeline.TimelineFollower.ticks.Goals as goal

pub returns-clause-value : goal.returns-clause-value
returns-clause-value c start base notes is run =
    timeline_more notes c.args.count c.args.self.now c.pass_ticks.new.self is c.pass_ticks.ensures.value

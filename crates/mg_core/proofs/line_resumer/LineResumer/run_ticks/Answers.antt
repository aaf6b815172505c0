use Rattle.mg_core.specs.aids.Resuming.{HasFollowed}
use Rattle.mg_core.proofs.ResumeLemmas.{ticks_followed}
use Rattle.mg_core.proofs.line_resumer.LineResumer.run_ticks.Goals as goal

pub returns-clause-value : goal.returns-clause-value
returns-clause-value g c start base notes h =
    let follows = g.F.Follower.follows in
    ticks_followed base c.args.self.now.core.state c.skip.new.self.state c.args.self.now.ticks
    (HasFollowed follows start c.args.follower.now base) (HasFollowed follows start c.ticks.new.self base) notes
    (λ past followed run ready. c.in_ok-ticks.ensures.value start base past (followed ready) run)
    c.skip.ensures.headline h

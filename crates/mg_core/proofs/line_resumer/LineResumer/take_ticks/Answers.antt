use Rattle.std.proofs.Common.{refl, arith}
use Rattle.mg_core.specs.aids.Resuming.{HasFollowed}
use Rattle.mg_core.proofs.ResumeLemmas.{ticks_added}
use Rattle.mg_core.proofs.line_resumer.LineResumer.take_ticks.Goals as goal

pub returns-in-Some-clause-value : goal.returns-in-Some-clause-value
returns-in-Some-clause-value g c start base =
    let old = c.args.self.now in
    ticks_added base old.core.state old.core.state old.ticks c.in-Some.ticks c.args.count
    (HasFollowed g.F.Follower.follows start c.args.follower.now base) refl (omega (arith, c.in-Some.ensures))

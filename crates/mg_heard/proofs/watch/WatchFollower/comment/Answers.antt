use Rattle.std.proofs.Common.{refl}
use Rattle.mg_heard.proofs.WatchLemmas.{watches_comment}
use Rattle.mg_heard.proofs.watch.WatchFollower.comment.Goals as goal

pub returns-then-is_some-clause-value : goal.returns-then-is_some-clause-value
returns-then-is_some-clause-value c start base notes (rules, h) =
    let old = c.args.self.now in (
      rules,
      watches_comment start.rules.now base notes c.args.line.now old.clock.ticks old.clock.ticks old.is_changed
          old.violation refl h,
    )

pub returns-in-Ok-clause-value : goal.returns-in-Ok-clause-value
returns-in-Ok-clause-value c start base notes (rules, h) =
    let old = c.args.self.now in (
      rules,
      watches_comment start.rules.now base notes c.args.line.now old.clock.ticks c.pass_comment.new.self.ticks
          old.is_changed old.violation c.pass_comment.ensures.ticks h,
    )

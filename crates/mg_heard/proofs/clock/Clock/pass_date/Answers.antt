use Rattle.std.proofs.Common.{refl, ◌∙◌}
use Rattle.mg_heard.proofs.TimingLemmas.{clock_date, gap_date, jump, no_jump}
use Rattle.mg_heard.proofs.clock.Clock.pass_date.Goals as goal

pub returns-in-WentBack-clause-value : goal.returns-in-WentBack-clause-value
returns-in-WentBack-clause-value c older h =
    let (ends, after) = clock_date older c.args.line.now c.args.date c.now-end.result c.args.self.now
    (record c.args.self.now { timeline = c.pass_date-agreement.new.self; first = c.or-self.result })
    c.requires.dated refl c.pass_date-agreement.ensures.value c.now-end.ensures.tick c.now-end.ensures.date
    c.or-self.ensures h in (
      jump c.pass_date-agreement.result c.now-first.result c.now-end.result c.in-WentBack.is
          ∙ gap_date older c.args.line.now c.args.date c.now-first.result c.now-end.result c.pass_date-agreement.result
          c.args.self.now c.requires.dated c.pass_date-agreement.ensures.agreement (c.now-first.ensures.value older h)
          ends h,
      after,
    )

pub returns-in-First-clause-value : goal.returns-in-First-clause-value
returns-in-First-clause-value c older h =
    let (ends, after) = clock_date older c.args.line.now c.args.date c.now-end.result c.args.self.now
    (record c.args.self.now { timeline = c.pass_date-agreement.new.self; first = c.or-self.result })
    c.requires.dated refl c.pass_date-agreement.ensures.value c.now-end.ensures.tick c.now-end.ensures.date
    c.or-self.ensures h in (
      no_jump c.pass_date-agreement.result c.now-first.result c.now-end.result c.in-First.is
          ∙ gap_date older c.args.line.now c.args.date c.now-first.result c.now-end.result c.pass_date-agreement.result
          c.args.self.now c.requires.dated c.pass_date-agreement.ensures.agreement (c.now-first.ensures.value older h)
          ends h,
      after,
    )

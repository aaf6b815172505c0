use Rattle.std.proofs.Common.{◌+◌}
use Rattle.std.specs.Duration.{as_nanos}
use Rattle.mg_clock.specs.Ticks.{clock_seen}
use Rattle.mg_clock.proofs.TickLemmas.{read_none, read_more, read_last}
use Rattle.mg_clock.proofs.tick_schedule.wait_until_due.Goals as goal

pub loop-init : goal.loop-init
loop-init g c = read_none c.args.tick (g.K.Watch.readings c.args.watch.now) (g.K.Watch.waits c.args.watch.now)

pub returns-in_default-clause-due : goal.returns-in_default-clause-due
returns-in_default-clause-due g c =
    read_last c.args.tick c.loop.counter c.in_ok-now.now
    (clock_seen (g.K.Watch.readings c.args.watch.now) (g.K.Watch.waits c.args.watch.now))
    (g.K.Watch.readings c.loop.watch) (g.K.Watch.waits c.loop.watch) (g.K.Watch.readings c.now.new.self)
    (g.K.Watch.waits c.now.new.self) c.loop.invariant c.in_ok-now.ensures.reports c.now.ensures.waits
    c.in_default.ensures.due

pub loop-preserved : goal.loop-preserved
loop-preserved g c =
    read_more c.args.tick c.loop.counter c.in_ok-now.now (as_nanos c.in-Some.time)
    (clock_seen (g.K.Watch.readings c.args.watch.now) (g.K.Watch.waits c.args.watch.now))
    (g.K.Watch.readings c.loop.watch) (g.K.Watch.waits c.loop.watch) (g.K.Watch.readings c.now.new.self)
    (g.K.Watch.waits c.now.new.self) (g.K.Watch.readings c.wait.new.self) (g.K.Watch.waits c.wait.new.self)
    c.loop.invariant c.in_ok-now.ensures.reports c.now.ensures.waits c.in-Some.ensures.later.0
    c.in-Some.ensures.later.1 c.wait.ensures.readings c.wait.ensures.waits

pub returns-then-reports-clause-message : goal.returns-then-reports-clause-message
returns-then-reports-clause-message g c = (
  c.if-reports.true,
  (
    c.loop.counter + 1,
    read_more c.args.tick c.loop.counter c.in_ok-now.now (as_nanos c.in-Some.time)
        (clock_seen (g.K.Watch.readings c.args.watch.now) (g.K.Watch.waits c.args.watch.now))
        (g.K.Watch.readings c.loop.watch) (g.K.Watch.waits c.loop.watch) (g.K.Watch.readings c.now.new.self)
        (g.K.Watch.waits c.now.new.self) (g.K.Watch.readings c.wait.new.self) (g.K.Watch.waits c.wait.new.self)
        c.loop.invariant c.in_ok-now.ensures.reports c.now.ensures.waits c.in-Some.ensures.later.0
        c.in-Some.ensures.later.1 c.wait.ensures.readings c.wait.ensures.waits,
  ),
)

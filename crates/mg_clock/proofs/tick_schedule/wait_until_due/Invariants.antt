use Rattle.mg_clock.specs.Ticks.{IsReadEarly, clock_seen}
use Rattle.mg_clock.proofs.tick_schedule.wait_until_due.Given as goal

abbrev pub invariant-loop : goal.invariant-loop
invariant-loop g l =
    IsReadEarly l.tick l.counter (clock_seen (g.K.Watch.readings l.initial.watch) (g.K.Watch.waits l.initial.watch))
    (clock_seen (g.K.Watch.readings l.watch) (g.K.Watch.waits l.watch))

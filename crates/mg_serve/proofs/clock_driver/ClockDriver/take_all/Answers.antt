use Rattle.std.proofs.Common.{◌≡◌, ◌⊎◌, ℕ, ◌-◌, ◌^◌, inl, inr, sym, subst, arith}
use Rattle.mg_clock.specs.declared.tick_schedule.TickSchedule.{TickSchedule}
use Rattle.mg_clock.specs.Ticks.{StepBegins, clock_seen}
use Rattle.mg_ports.specs.Journaled.{ports_seen}
use Rattle.mg_serve.specs.aids.Outside.{outside}
use Rattle.mg_serve.proofs.Clocking.{clock_fails, no_steps, one_step_more, print_fails}
use Rattle.mg_serve.proofs.clock_driver.ClockDriver.take_all.Goals as goal

pub loop-init : goal.loop-init
loop-init g c = record {
  whole = c.requires.whole;
  few = omega (arith, c.requires.start);
  done = λ allowed is. rw is (no_steps c.args.setup.now (record { ticks = 0; allowed = allowed; messages = 0 })
      (clock_seen (g.K.Watch.readings c.args.watch.now) (g.K.Watch.waits c.args.watch.now))
      c.args.self.now.server.core.state
      (outside (ports_seen (g.P.Ports.Ports.calls c.args.ports.now) (g.P.Ports.Ports.journal c.args.ports.now))
      (g.P.Output.Write.contents c.args.writer.now) c.args.self.now.server.printer c.args.self.now.server.journal));
}

pub returns-in_default-clause-ends : goal.returns-in_default-clause-ends
returns-in_default-clause-ends g c = c.loop.invariant.whole

pub returns-in_default-clause-value : goal.returns-in_default-clause-value
returns-in_default-clause-value g c allowed is =
    let before = clock_seen (g.K.Watch.readings c.args.watch.now) (g.K.Watch.waits c.args.watch.now) in
    let now = clock_seen (g.K.Watch.readings c.loop.watch) (g.K.Watch.waits c.loop.watch) in
    let after = clock_seen (g.K.Watch.readings c.next_step.new.watch) (g.K.Watch.waits c.next_step.new.watch) in
    clock_fails c.args.self.now.server.printer.form c.args.setup.now allowed c.loop.counter c.loop.self.schedule
    before now after (g.K.Watch.Fails c.next_step.new.watch)
    c.args.self.now.server.core.state c.loop.self.server.core.state
    (outside (ports_seen (g.P.Ports.Ports.calls c.args.ports.now) (g.P.Ports.Ports.journal c.args.ports.now))
    (g.P.Output.Write.contents c.args.writer.now) c.args.self.now.server.printer c.args.self.now.server.journal)
    (outside (ports_seen (g.P.Ports.Ports.calls c.loop.ports) (g.P.Ports.Ports.journal c.loop.ports))
    (g.P.Output.Write.contents c.loop.writer) c.loop.self.server.printer c.loop.self.server.journal)
    (c.loop.invariant.done allowed is) (failed_or c.in_default.ensures.fails)
  where
    failed_or : {A B : Type 0} {n : ℕ} → (A ⊎ B) → (A ⊎ (n ≡ 2 ^ 64 - 1 ⊎ B))
    failed_or (inl a) = inl a
    failed_or (inr b) = inr (inr b)

pub take_step-requires-clause-whole : goal.take_step-requires-clause-whole
take_step-requires-clause-whole g c = c.loop.invariant.whole

pub take_step-requires-clause-few : goal.take_step-requires-clause-few
take_step-requires-clause-few g c = omega (arith, c.loop.invariant.few, c.loop-test.true)

pub returns-in_default-take_step-clause-value : goal.returns-in_default-take_step-clause-value
returns-in_default-take_step-clause-value g c allowed is =
    let before = clock_seen (g.K.Watch.readings c.args.watch.now) (g.K.Watch.waits c.args.watch.now) in
    let now = clock_seen (g.K.Watch.readings c.loop.watch) (g.K.Watch.waits c.loop.watch) in
    let after = clock_seen (g.K.Watch.readings c.next_step.new.watch) (g.K.Watch.waits c.next_step.new.watch) in
    print_fails c.args.setup.now allowed c.loop.counter c.loop.self.schedule c.next_step.new.self c.in-Ok.step
    c.in_default-take_step.field-0
    before now after (g.K.Watch.Fails c.next_step.new.watch)
    c.args.self.now.server.core.state c.loop.self.server.core.state c.take_step.new.self.server.core.state
    (outside (ports_seen (g.P.Ports.Ports.calls c.args.ports.now) (g.P.Ports.Ports.journal c.args.ports.now))
    (g.P.Output.Write.contents c.args.writer.now) c.args.self.now.server.printer c.args.self.now.server.journal)
    (outside (ports_seen (g.P.Ports.Ports.calls c.loop.ports) (g.P.Ports.Ports.journal c.loop.ports))
    (g.P.Output.Write.contents c.loop.writer) c.loop.self.server.printer c.loop.self.server.journal)
    (outside (ports_seen (g.P.Ports.Ports.calls c.take_step.new.ports) (g.P.Ports.Ports.journal c.take_step.new.ports))
    (g.P.Output.Write.contents c.take_step.new.writer) c.take_step.new.self.server.printer c.take_step.new.self.server.journal)
    (c.loop.invariant.done allowed is) c.in-Ok.ensures.begins (rw c.in_default-take_step.is at c.take_step.ensures.value)

pub loop-preserved : goal.loop-preserved
loop-preserved g c =
    let before = clock_seen (g.K.Watch.readings c.args.watch.now) (g.K.Watch.waits c.args.watch.now) in
    let now = clock_seen (g.K.Watch.readings c.loop.watch) (g.K.Watch.waits c.loop.watch) in
    let after = clock_seen (g.K.Watch.readings c.next_step.new.watch) (g.K.Watch.waits c.next_step.new.watch) in
    let begins = subst (λ (s : TickSchedule). StepBegins c.loop.self.schedule now after c.in-Ok.step s)
    (sym c.take_step.ensures.schedule) c.in-Ok.ensures.begins in
    record {
      whole = c.in-Ok-take_step.ensures.whole;
      few = omega (arith, c.loop.invariant.few, c.take_step.ensures.few);
      done = λ allowed is. one_step_more c.loop.self.server.printer.form c.args.setup.now
          (record { ticks = 0; allowed = allowed; messages = 0 })
          c.loop.self.schedule c.take_step.new.self.schedule c.loop.counter
          c.in-Ok.step before now after c.args.self.now.server.core.state c.loop.self.server.core.state
          c.take_step.new.self.server.core.state
          (outside (ports_seen (g.P.Ports.Ports.calls c.args.ports.now) (g.P.Ports.Ports.journal c.args.ports.now))
          (g.P.Output.Write.contents c.args.writer.now) c.args.self.now.server.printer c.args.self.now.server.journal)
          (outside (ports_seen (g.P.Ports.Ports.calls c.loop.ports) (g.P.Ports.Ports.journal c.loop.ports))
          (g.P.Output.Write.contents c.loop.writer) c.loop.self.server.printer c.loop.self.server.journal)
          (outside (ports_seen (g.P.Ports.Ports.calls c.take_step.new.ports) (g.P.Ports.Ports.journal c.take_step.new.ports))
          (g.P.Output.Write.contents c.take_step.new.writer) c.take_step.new.self.server.printer c.take_step.new.self.server.journal)
          (c.loop.invariant.done allowed is) begins (rw c.in-Ok-take_step.is at c.take_step.ensures.value);
    }

pub returns-clause-ends : goal.returns-clause-ends
returns-clause-ends g c = c.loop.invariant.whole

pub returns-clause-value : goal.returns-clause-value
returns-clause-value g c allowed is =
    let before = clock_seen (g.K.Watch.readings c.args.watch.now) (g.K.Watch.waits c.args.watch.now) in
    let now = clock_seen (g.K.Watch.readings c.loop.watch) (g.K.Watch.waits c.loop.watch) in
    clock_fails c.args.self.now.server.printer.form c.args.setup.now allowed c.loop.counter c.loop.self.schedule
    before now now (g.K.Watch.Fails c.loop.watch)
    c.args.self.now.server.core.state c.loop.self.server.core.state
    (outside (ports_seen (g.P.Ports.Ports.calls c.args.ports.now) (g.P.Ports.Ports.journal c.args.ports.now))
    (g.P.Output.Write.contents c.args.writer.now) c.args.self.now.server.printer c.args.self.now.server.journal)
    (outside (ports_seen (g.P.Ports.Ports.calls c.loop.ports) (g.P.Ports.Ports.journal c.loop.ports))
    (g.P.Output.Write.contents c.loop.writer) c.loop.self.server.printer c.loop.self.server.journal)
    (c.loop.invariant.done allowed is) (inr (inl (omega (arith, c.loop-test.false))))

-- A session driven by a clock.
use Rattle.std.proofs.Common.{◌≡◌, ◌≢◌, ◌⊎◌, ℕ, ◌+◌, ◌-◌, ◌^◌, ◌≤◌, inr, true, false, List, [], ◌∷◌, ◌++◌, length, Ok, Err, refl, sym, ap, subst, ◌∙◌, append_assoc, arith}
use Rattle.std.proofs.lemmas.List.{append-nil, length_push}
use Rattle.std.proofs.lemmas.Grind.{flat_map-append}
use Rattle.mg_clock.specs.declared.step.Step.{Step}
use Rattle.mg_clock.specs.declared.step.Step.TheVariants as steps
use Rattle.mg_clock.specs.declared.tick_schedule.TickSchedule.{TickSchedule}
use Rattle.mg_clock.specs.declared.timing.Timing.{Timing}
use Rattle.mg_clock.specs.Ticks.{ClockSeen, IsReadEarly, StepBegins}
use Rattle.mg_clock.proofs.TickLemmas.{steps_more}
use Rattle.mg_core.specs.declared.fault.RunFault.TheVariants as faults
use Rattle.mg_core.specs.declared.state.CoreState.{CoreState}
use Rattle.mg_core.specs.World.{World}
use Rattle.mg_lines.specs.declared.write_failed.WriteFailed.{WriteFailed}
use Rattle.mg_serve.specs.declared.command.Command.{Command}
use Rattle.mg_serve.specs.declared.command.Command.TheVariants.{Poll, Tick}
use Rattle.mg_serve.specs.declared.form.Form.{Form}
use Rattle.mg_serve.specs.Lines.{prints}
use Rattle.mg_serve.specs.Serve.{commands_of, step_commands}
use Rattle.mg_serve.specs.Session.{Performs, Session}
use Rattle.mg_serve.specs.Setup.{Setup}
use Rattle.mg_serve.specs.Trace.{TraceEntry, output_of}
use Rattle.mg_serve.specs.aids.Driving.{RanByClock, StepTaken, StepsDone}
use Rattle.mg_serve.specs.aids.Outside.{Outside, LeadsByTrace}
use Rattle.mg_serve.proofs.Steps.{prints_some, some_printed}
use Rattle.mg_serve.proofs.Taking.{each_both, each_one, takes_as, takes_joined, takes_none, takes_seen, takes_then}

-- ## A step of the clock

-- The commands of a step after its poll.
after_poll : Step → List Command
after_poll steps.Message = []
after_poll (steps.Tick timing) = Tick timing ∷ []

begins_with_poll : (step : Step) → step_commands step ≡ (Poll ∷ []) ++ after_poll step
unfolding after_poll
begins_with_poll steps.Message = refl
begins_with_poll (steps.Tick timing) = refl

at_most_one : (step : Step) → length (after_poll step) ≤ 1
unfolding after_poll
at_most_one steps.Message = omega arith
at_most_one (steps.Tick timing) = omega arith

-- If printing fails during the poll, the step fails.
pub poll_fails : (setup : Setup) (step : Step) (failed : WriteFailed) (old mid : CoreState) (x y : Outside) →
    x.printer.has_failed ≡ false → y.printer.has_failed ≡ true → LeadsByTrace old mid x y (Performs setup Poll) →
    LeadsByTrace old mid x y (StepTaken x.printer.form setup step (Err failed))
poll_fails setup step failed old mid x y before after h =
    let form = x.printer.form in
    takes_seen old mid x y (Performs setup Poll) (StepTaken form setup step (Err failed)) h
    (λ w next p logged done. (
      Poll ∷ [],
      after_poll step,
      begins_with_poll step,
      at_most_one step,
      record {
        front = [];
        command = Poll;
        is = refl;
        printed = prints_some form setup Poll w next p done (some_printed x y p before after logged);
      },
      each_one (Performs setup) Poll w next p done,
    ))

both_done : (setup : Setup) (timing : Timing) (w mid next : World) (p q : List TraceEntry) → Performs setup Poll w p mid →
    Performs setup (Tick timing) mid q next → Session setup (Poll ∷ Tick timing ∷ []) w (p ++ q) next
both_done setup timing w mid next p q h k =
    each_both (Performs setup) (Poll ∷ []) (Tick timing ∷ []) w mid next p q (each_one (Performs setup) Poll w mid p h)
    (each_one (Performs setup) (Tick timing) mid next q k)

-- If printing fails during the tick, the step fails.
pub tick_fails : (setup : Setup) (timing : Timing) (failed : WriteFailed) (old mid core : CoreState) (x y z : Outside) →
    y.printer.has_failed ≡ false → z.printer.has_failed ≡ true → LeadsByTrace old mid x y (Performs setup Poll) →
    LeadsByTrace mid core y z (Performs setup (Tick timing)) →
    LeadsByTrace old core x z (StepTaken x.printer.form setup (steps.Tick timing) (Err failed))
tick_fails setup timing failed old mid core x y z before after h k =
    let form = x.printer.form in
    takes_joined old mid core x y z (Performs setup Poll) (Performs setup (Tick timing))
    (StepTaken form setup (steps.Tick timing) (Err failed)) h k
    (λ w m next p q logged more done ticked.
    let some = subst (λ (f : Form). output_of f q ≢ []) logged.prints.form (some_printed y z q before after more) in (
      Poll ∷ Tick timing ∷ [],
      [],
      refl,
      omega arith,
      record {
        front = Poll ∷ [];
        command = Tick timing;
        is = refl;
        printed = prints_some form setup (Tick timing) m next q ticked some;
      },
      both_done setup timing w m next p q done ticked,
    ))

pub tick_taken : (form : Form) (setup : Setup) (timing : Timing) (old mid core : CoreState) (x y z : Outside) →
    LeadsByTrace old mid x y (Performs setup Poll) → LeadsByTrace mid core y z (Performs setup (Tick timing)) →
    LeadsByTrace old core x z (StepTaken form setup (steps.Tick timing) (Ok tt))
tick_taken form setup timing old mid core x y z h k =
    takes_then old mid core x y z (Performs setup Poll) (Performs setup (Tick timing))
    (StepTaken form setup (steps.Tick timing) (Ok tt)) h k (λ w m next p q. both_done setup timing w m next p q)

-- ## Several steps of the clock

pub no_steps : (setup : Setup) (first : TickSchedule) (clock : ClockSeen) (core : CoreState) (x : Outside) →
    LeadsByTrace core core x x (StepsDone setup first 0 clock clock first)
no_steps setup first clock core x =
    takes_none core x (StepsDone setup first 0 clock clock first) (λ w. ([], refl, (refl, refl), (refl, refl)))

commands_more : (taken : List Step) (step : Step) → commands_of (taken ++ step ∷ []) ≡ commands_of taken ++ step_commands step
commands_more taken step =
    flat_map-append step_commands taken (step ∷ []) ∙
    ap (λ (l : List Command). commands_of taken ++ l) (append-nil (step_commands step))

-- After `count` steps of the clock, one more step makes `count + 1` steps.
pub one_step_more : (form : Form) (setup : Setup) (first s v : TickSchedule) (count : ℕ) (step : Step) (c d e : ClockSeen)
    (old mid core : CoreState) (x y z : Outside) → LeadsByTrace old mid x y (StepsDone setup first count c d s) →
    StepBegins s d e step v → LeadsByTrace mid core y z (StepTaken form setup step (Ok tt)) →
    LeadsByTrace old core x z (StepsDone setup first (count + 1) c e v)
one_step_more form setup first s v count step c d e old mid core x y z h begins k =
    takes_then old mid core x y z (StepsDone setup first count c d s) (StepTaken form setup step (Ok tt))
    (StepsDone setup first (count + 1) c e v) h k
    (λ w m next p q (taken, counted, begin, done) performed. (
      taken ++ step ∷ [],
      length_push taken step ∙ ap (λ (n : ℕ). n + 1) counted,
      steps_more first s v taken step c d e begin begins,
      subst (λ (l : List Command). Session setup l w (p ++ q) next) (sym (commands_more taken step))
          (each_both (Performs setup) (commands_of taken) (step_commands step) w m next p q done performed),
    ))

-- ## The end of a run by the clock

-- If the clock fails or can't reach the next tick, or if the maximum number of steps was taken, the run ends with
-- `Read`.
pub clock_fails : (form : Form) (setup : Setup) (allowed count : ℕ) (s : TickSchedule) (c d e : ClockSeen)
    (fails : Type 0) (old core : CoreState) (x z : Outside) →
    LeadsByTrace old core x z (StepsDone setup (record { ticks = 0; allowed = allowed; messages = 0 }) count c d s) →
    (fails ⊎ (count ≡ 2 ^ 64 - 1 ⊎ (s.ticks ≡ 2 ^ 64 - 1 ⊎ IsReadEarly (s.ticks + 1) (2 ^ 64 - 1) d e))) →
    LeadsByTrace old core x z (RanByClock form setup allowed c e fails faults.Read)
clock_fails form setup allowed count s c d e fails old core x z h why =
    takes_as old core x z (StepsDone setup (record { ticks = 0; allowed = allowed; messages = 0 }) count c d s)
    (RanByClock form setup allowed c e fails faults.Read) h
    (λ w next p (taken, counted, begin, done). (
      commands_of taken,
      record {
        steps = taken;
        schedule = s;
        now = d;
        begin = begin;
        exits = (
          refl,
          subst (λ (n : ℕ). fails ⊎ (n ≡ 2 ^ 64 - 1 ⊎ (s.ticks ≡ 2 ^ 64 - 1
              ⊎ IsReadEarly (s.ticks + 1) (2 ^ 64 - 1) d e))) (sym counted) why,
        );
      },
      done,
    ))

-- If printing fails, the run ends with `Write`.
pub print_fails : (setup : Setup) (allowed count : ℕ) (s v : TickSchedule) (step : Step) (failed : WriteFailed)
    (c d e : ClockSeen) (fails : Type 0) (old mid core : CoreState) (x y z : Outside) →
    LeadsByTrace old mid x y (StepsDone setup (record { ticks = 0; allowed = allowed; messages = 0 }) count c d s) →
    StepBegins s d e step v →
    LeadsByTrace mid core y z (StepTaken y.printer.form setup step (Err failed)) →
    LeadsByTrace old core x z (RanByClock x.printer.form setup allowed c e fails faults.Write)
print_fails setup allowed count s v step failed c d e fails old mid core x y z h begins k =
    let first : TickSchedule = record { ticks = 0; allowed = allowed; messages = 0 } in
    takes_joined old mid core x y z (StepsDone setup first count c d s)
    (StepTaken y.printer.form setup step (Err failed))
    (RanByClock x.printer.form setup allowed c e fails faults.Write) h k
    (λ w m next p q logged more (taken, counted, begin, done) (commands, left, parts, few, last, performed). (
      commands_of taken ++ commands,
      record {
        steps = taken ++ step ∷ [];
        schedule = v;
        now = e;
        begin = steps_more first s v taken step c d e begin begins;
        exits = inr (
          refl,
          left,
          commands_more taken step ∙ ap (λ (l : List Command). commands_of taken ++ l) parts ∙
              sym (append_assoc (commands_of taken) commands left),
          few,
          record {
            front = commands_of taken ++ last.front;
            command = last.command;
            is = ap (λ (l : List Command). commands_of taken ++ l) last.is ∙
                sym (append_assoc (commands_of taken) last.front (last.command ∷ []));
            printed = subst (λ (f : Form). prints f last.command ≡ true) logged.prints.form last.printed;
          },
        );
      },
      each_both (Performs setup) (commands_of taken) commands w m next p q done performed,
    ))

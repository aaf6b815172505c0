-- What is true of a run that is driven by a clock stays true with ⊤ for `fails`, which says nothing about failures.
use Rattle.std.proofs.Common.{◌≡◌, ◌≢◌, ◌⊎◌, ℕ, ◌+◌, ◌-◌, ◌^◌, ◌≤◌, inl, inr, List, [], ◌++◌, length, Option, Err, Result}
use Rattle.std.specs.Prelude.{⊤}
use Rattle.mg_clock.specs.declared.step.Step.{Step}
use Rattle.mg_clock.specs.declared.tick_schedule.TickSchedule.{TickSchedule}
use Rattle.mg_clock.specs.Ticks.{ClockSeen, IsReadEarly}
use Rattle.mg_core.specs.declared.counts.Counts.{Counts}
use Rattle.mg_core.specs.declared.fault.RunFault.{RunFault}
use Rattle.mg_core.specs.declared.fault.RunFault.TheVariants as faults
use Rattle.mg_core.specs.World.{World}
use Rattle.mg_ports.specs.Journaled.{PortsSeen}
use Rattle.mg_serve.specs.declared.command.Command.{Command}
use Rattle.mg_serve.specs.declared.form.Form.{Form}
use Rattle.mg_serve.specs.Lines.{LastPrints}
use Rattle.mg_serve.specs.Serve.{ClockCommands, Exits, Served, commands_of, form_of}
use Rattle.mg_serve.specs.Setup.{Setup}
use Rattle.mg_host.specs.declared.host_call.HostCall.{HostCall}
use Rattle.mg_host.specs.HostCalls.{IsLogged}
use Rattle.mg_program.specs.Serve.{ByClock, Gives}

-- The reasons why a run that is driven by a clock stops with a fault.
abbrev ClockExits : Form → RunFault → (fails : Type 0) → List Step → TickSchedule → List Command → (now new : ClockSeen)
    → Type 0
ClockExits form fault fails steps schedule commands now new = Exits {T = Counts} (Err fault) ⊥
    ((commands ≡ commands_of steps) × (fails ⊎ (length steps ≡ 2 ^ 64 - 1 ⊎ (schedule.ticks ≡ 2 ^ 64 - 1
    ⊎ IsReadEarly (schedule.ticks + 1) (2 ^ 64 - 1) now new))))
    ((new ≡ now) × (steps ≡ []) × (commands ≡ []))
    ((new ≡ now) × (left : List Command) × (commands_of steps ≡ commands ++ left) × (length left ≤ 1)
    × LastPrints form commands)

exits_any : (form : Form) (fault : RunFault) (fails : Type 0) (steps : List Step) (schedule : TickSchedule)
    (commands : List Command) (now new : ClockSeen) → ClockExits form fault fails steps schedule commands now new
    → ClockExits form fault ⊤ steps schedule commands now new
exits_any form faults.Read fails steps schedule commands now new (are, inl failed) = (are, inl tt)
exits_any form faults.Read fails steps schedule commands now new (are, inr others) = (are, inr others)
exits_any form faults.Write fails steps schedule commands now new h = h
exits_any form faults.NoMemory fails steps schedule commands now new h = h
exits_any form faults.BadConfig fails steps schedule commands now new h = h
exits_any form (faults.Script number) fails steps schedule commands now new h = absurd h

gave_any : (form : Form) (allowed : ℕ) (old new : ClockSeen) (fails : Type 0) (fault : RunFault) (commands : List Command)
    → ClockCommands form allowed old new fails (Err fault) commands
    → ClockCommands form allowed old new ⊤ (Err fault) commands
gave_any form allowed old new fails fault commands h = record {
  steps = h.steps;
  schedule = h.schedule;
  now = h.now;
  begin = h.begin;
  exits = exits_any form fault fails h.steps h.schedule commands h.now new h.exits;
}

pub served_any : (setup : Setup) (w : World) (title : Option (List ℕ)) (allowed : ℕ) (clock later : ClockSeen)
    (fails : Type 0) (begun : Option (List HostCall)) (old new : PortsSeen) (held written : Option (List ℕ))
    (fault : RunFault) → IsLogged begun clock.readings []
    → Served setup w title (ClockCommands (form_of title) allowed clock later fails (Err fault)) old new held written (Err fault)
    → Served setup w title (Gives (ByClock allowed later) (form_of title) begun (Err fault)) old new held written (Err fault)
served_any setup w title allowed clock later fails begun old new held written fault unread h = record {
  first = h.first;
  commands = h.commands;
  trace = h.trace;
  last = h.last;
  lacking = h.lacking;
  opens = h.opens;
  gave = (clock, unread, gave_any (form_of title) allowed clock later fails fault h.commands h.gave);
  session = h.session;
  logs = h.logs;
  lacks = h.lacks;
  untried = h.untried;
  tries = h.tries;
  fenced = h.fenced;
  journaled = h.journaled;
  printed = h.printed;
  counts = h.counts;
}

pub fault_ran : (fault : RunFault) → fault ≢ faults.BadConfig
    → ◌≢◌ {A = Result Counts RunFault} (Err fault) (Err faults.BadConfig)
fault_ran fault other same = other (cc same)

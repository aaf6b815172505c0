-- The contract of a server's whole run.
use Rattle.std.specs.Prelude.{◌≡◌, ◌⊎◌, ℕ, ◌+◌, ◌-◌, ◌^◌, ◌≤◌, Bool, true, false, List, [], ◌∷◌}
use Rattle.std.specs.Prelude.{◌++◌, length, map, flat_map, Option, Some, None, IsSome, Result, Ok, Err}
use Rattle.std.specs.Prelude.{codes}
use Rattle.std.specs.Io.KnownBytes.{Appends, Consumes, IsAtEnd}
use Rattle.mg_clock.specs.declared.step.Step.{Step}
use Rattle.mg_clock.specs.declared.step.Step.TheVariants as steps
use Rattle.mg_clock.specs.declared.tick_schedule.TickSchedule.{TickSchedule}
use Rattle.mg_clock.specs.Ticks.{ClockSeen, IsReadEarly, StepsBegin}
use Rattle.mg_core.specs.declared.counts.Counts.{Counts}
use Rattle.mg_core.specs.declared.fault.RunFault.{RunFault}
use Rattle.mg_core.specs.declared.fault.RunFault.TheVariants as faults
use Rattle.mg_core.specs.World.{World, counts_of}
use Rattle.mg_lines.specs.Lines.{lines_of}
use Rattle.mg_lines.specs.Streams.{WritesFront}
use Rattle.mg_ports.specs.Calls.{Grows}
use Rattle.mg_ports.specs.Journaled.{PortsSeen, JournalAfter}
use Rattle.mg_serve.specs.Fenced.{IsFenced}
use Rattle.mg_serve.specs.declared.fencing.Fencing.{Fencing}
use Rattle.mg_serve.specs.Journaled.{IsJournaled, Tries}
use Rattle.mg_serve.specs.declared.form.Form.{Form}
use Rattle.mg_serve.specs.declared.form.Form.TheVariants.{Plain, Recording}
use Rattle.mg_serve.specs.declared.command.Command.{Command}
use Rattle.mg_serve.specs.declared.command.Command.TheVariants.{Poll, Tick}
use Rattle.mg_serve.specs.Lines.{LastPrints, before_quit, line_command}
use Rattle.mg_serve.specs.Session.{Session}
use Rattle.mg_serve.specs.Setup.{Setup, fencing_of}
use Rattle.mg_serve.specs.Trace.{TraceEntry, Printed, Noted, calls_of, output_of}

-- The reason why a source has no more commands. If the run succeeded, the source is exhausted. On `Read`, the source
-- couldn't be read. On `Write`, printing failed at the start or for the last command. On any other error, nothing was
-- executed.
abbrev pub Exits : {T : Type 0} → Result T RunFault → (over unread none printed : Type 0) → Type 0
Exits (Ok value) over unread none printed = over
Exits (Err faults.Read) over unread none printed = unread
Exits (Err faults.Write) over unread none printed = none ⊎ printed
Exits (Err (faults.Script number)) over unread none printed = ⊥
Exits (Err fault) over unread none printed = none

-- Text was read. The commands come from its lines before the first `quit` or, if printing failed, from a prefix of
-- these lines. If the run succeeded, no line is left: the input ended, or everything that follows comes after a `quit`.
-- If the input couldn't be read, all lines that were read completely were executed.
pub record ReadCommands {T : Type 0} (form : Form) (old new : Option (List ℕ))
    (result : Result T RunFault) (commands : List Command) : Type 0 where
  pub text : List ℕ
  pub ended : Bool
  pub lines : List (List ℕ)
  pub others : List (List ℕ)
  pub consumed : Consumes old new text
  pub counted : before_quit (lines_of ended text) ≡ lines ++ others
  pub are : commands ≡ map line_command lines
  pub exits : Exits result
      ((others ≡ []) × (((ended ≡ true) × IsAtEnd new)
      ⊎ ((more : List ℕ) → before_quit (lines_of true (text ++ more)) ≡ lines)))
      ((ended ≡ false) × (others ≡ [])) ((lines ≡ []) × (text ≡ [])) (LastPrints form commands)

-- The commands of a step: a poll, and then the tick if one begins.
abbrev pub step_commands : Step → List Command
step_commands steps.Message = Poll ∷ []
step_commands (steps.Tick timing) = Poll ∷ Tick timing ∷ []

abbrev pub commands_of : List Step → List Command
commands_of steps = flat_map step_commands steps

-- The commands belong to the steps of a clock: to its ticks, each when it was due, and to messages in between. The run
-- never succeeds. On `Read`, the clock couldn't be read or will never reach the next tick, or 2^64 - 1 steps were
-- taken. If printing failed for a command, at most one tick was not executed.
pub record ClockCommands (form : Form) (allowed : ℕ) (old new : ClockSeen) (fails : Type 0)
    (result : Result Counts RunFault) (commands : List Command) : Type 0 where
  pub steps : List Step
  pub schedule : TickSchedule
  pub now : ClockSeen
  pub begin : StepsBegin (record { ticks = 0; allowed = allowed; messages = 0 }) steps old now
      schedule
  pub exits : Exits result ⊥
      ((commands ≡ commands_of steps)
      × (fails ⊎ (length steps ≡ 2 ^ 64 - 1 ⊎ (schedule.ticks ≡ 2 ^ 64 - 1
      ⊎ IsReadEarly (schedule.ticks + 1) (2 ^ 64 - 1) now new))))
      ((new ≡ now) × (steps ≡ []) × (commands ≡ []))
      ((new ≡ now) × (left : List Command) × (commands_of steps ≡ commands ++ left)
      × (length left ≤ 1) × LastPrints form commands)

-- If the run succeeded, the counts match the events of a world, except for the counts of lines, sends and failures.
abbrev pub AreCounted : Result Counts RunFault → World → Type 0
AreCounted (Ok counts) w = record counts { lines = 0; sent = 0; failed = 0 } ≡ counts_of w.tally
AreCounted (Err fault) w = Unit {0}

-- The form of the output: a recording if there is a title.
abbrev pub form_of : Option (List ℕ) → Form
form_of None = Plain
form_of (Some title) = Recording

-- The entries that are printed at the start.
abbrev pub opening : Option (List ℕ) → List TraceEntry
opening None = Printed (codes "ready") ∷ []
opening (Some title) = Noted title ∷ Printed (codes "ready") ∷ []

-- The entries that a run prints at the start: the opening, unless the run failed before it began.
abbrev pub Opens : Option (List ℕ) → Result Counts RunFault → List TraceEntry → Type 0
Opens title (Err faults.NoMemory) first = first ≡ []
Opens title (Err faults.BadConfig) first = first ≡ []
Opens title result first = first ≡ opening title

-- All of the text was printed. If printing failed, only a proper prefix of the text was printed.
abbrev pub IsOutput : Result Counts RunFault → List ℕ → Option (List ℕ) → Option (List ℕ) → Type 0
IsOutput (Err faults.Write) text old new = WritesFront text old new
IsOutput _ text old new = Appends old new text

-- A run of a gateway from the world `w`, with commands from a source. The commands form a session; the ports logged its
-- calls, its journal got its lines, and its output was printed.
pub record Served (setup : Setup) (w : World) (title : Option (List ℕ))
    (Gave : List Command → Type 0) (old new : PortsSeen) (held written : Option (List ℕ))
    (result : Result Counts RunFault) : Type 0 where
  pub first : List TraceEntry
  pub commands : List Command
  pub trace : List TraceEntry
  pub last : World
  pub lacking : ℕ
  pub opens : Opens title result first
  pub gave : Gave commands
  pub session : Session setup commands w trace last
  pub logs : Grows old.calls new.calls (calls_of trace)
  pub lacks : IsJournaled setup.journal 0 trace lacking
  pub untried : ℕ
  pub tries : IsSome setup.journal → Tries 0 trace untried
  pub fenced : (fencing : Fencing) × IsFenced (fencing_of setup) trace fencing
  pub journaled : JournalAfter (calls_of trace) old.journal new.journal
  pub printed : IsOutput result (output_of (form_of title) (first ++ trace)) held written
  pub counts : AreCounted result last

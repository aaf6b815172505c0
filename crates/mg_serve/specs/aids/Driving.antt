-- What a server does when a datagram, bytes of its input, the last line or a step of the clock arrives.
use Rattle.std.specs.Prelude.{◌≡◌, ℕ, ◌≤◌, Bool, true, false, List, [], ◌∷◌, ◌++◌, length, take, map}
use Rattle.std.specs.Prelude.{Option, Result, Ok, Err}
use Rattle.mg_clock.specs.declared.step.Step.{Step}
use Rattle.mg_clock.specs.declared.tick_schedule.TickSchedule.{TickSchedule}
use Rattle.mg_clock.specs.Ticks.{ClockSeen, StepsBegin}
use Rattle.mg_words.specs.declared.peer.Peer.{Peer}
use Rattle.mg_core.specs.declared.fault.RunFault.{RunFault}
use Rattle.mg_core.specs.declared.fault.RunFault.TheVariants as faults
use Rattle.mg_core.specs.World.{World}
use Rattle.mg_lines.specs.declared.write_failed.WriteFailed.{WriteFailed}
use Rattle.mg_lines.specs.Lines.{lines_after}
use Rattle.mg_serve.specs.declared.form.Form.{Form}
use Rattle.mg_serve.specs.Lines.{LastPrints, line_command, before_quit}
use Rattle.mg_serve.specs.Serve.{ClockCommands, ReadCommands, commands_of, step_commands}
use Rattle.mg_serve.specs.Session.{ReceivesDatagram, Performs, ReceivesNothing, Session}
use Rattle.mg_serve.specs.Setup.{Setup}
use Rattle.mg_serve.specs.declared.command.Command.{Command}
use Rattle.mg_serve.specs.Trace.{TraceEntry}

-- A receive, and whether it returned a datagram.
abbrev pub Received : Setup → ℕ → Bool → World → List TraceEntry → World → Type 0
Received setup socket true w trace next =
    (datagram : Peer × List ℕ) × ReceivesDatagram setup socket datagram w trace next
Received setup socket false w trace next = ReceivesNothing socket trace × (next ≡ w)

-- The complete lines in these bytes were executed, and the first 8 bytes of the partial line after them are kept.
-- Otherwise a line was `quit`, or printing failed for a line.
abbrev pub BytesTaken : Form → Setup → List ℕ → List ℕ → List ℕ → Result Bool WriteFailed → World
    → List TraceEntry → World → Type 0
BytesTaken form setup partial bytes kept (Ok false) w trace next =
    (lines : List (List ℕ)) × (left : List ℕ) × (kept ≡ take 8 left)
    × ((ended : Bool) (more : List ℕ) → before_quit (lines_after ended partial (bytes ++ more))
    ≡ lines ++ before_quit (lines_after ended left more))
    × Session setup (map line_command lines) w trace next
BytesTaken form setup partial bytes kept (Ok true) w trace next =
    (lines : List (List ℕ))
    × ((ended : Bool) (more : List ℕ)
    → before_quit (lines_after ended partial (bytes ++ more)) ≡ lines)
    × Session setup (map line_command lines) w trace next
BytesTaken form setup partial bytes kept (Err failed) w trace next =
    (lines : List (List ℕ))
    × ((ended : Bool) (more : List ℕ) → (others : List (List ℕ))
    × (before_quit (lines_after ended partial (bytes ++ more)) ≡ lines ++ others))
    × LastPrints form (map line_command lines) × Session setup (map line_command lines) w trace next

-- A non-empty partial line is executed as the last line.
abbrev pub Finished : Setup → List ℕ → World → List TraceEntry → World → Type 0
Finished setup [] w trace next = (trace ≡ []) × (next ≡ w)
Finished setup (b ∷ bs) w trace next = Performs setup (line_command (b ∷ bs)) w trace next

-- A run ends with `Write` if and only if printing has failed.
abbrev pub EndsBy : {T : Type 0} → Result T RunFault → (has_failed : Bool) → Type 0
EndsBy (Ok value) has_failed = has_failed ≡ false
EndsBy (Err faults.Read) has_failed = has_failed ≡ false
EndsBy (Err faults.Write) has_failed = has_failed ≡ true
EndsBy (Err faults.NoMemory) has_failed = ⊥
EndsBy (Err faults.BadConfig) has_failed = ⊥
EndsBy (Err (faults.Script number)) has_failed = ⊥

abbrev pub EndsByFault : RunFault → (has_failed : Bool) → Type 0
EndsByFault fault has_failed = EndsBy {T = Unit {0}} (Err fault) has_failed

-- The commands from a source form a session.
abbrev pub RanBy : Setup → (List Command → Type 0) → World → List TraceEntry → World → Type 0
RanBy setup Gave w trace next =
    (commands : List Command) × Gave commands × Session setup commands w trace next

abbrev pub RanLines : {T : Type 0} → Form → Setup → Option (List ℕ) → Option (List ℕ)
    → Result T RunFault → World → List TraceEntry → World → Type 0
RanLines form setup old new result w trace next =
    RanBy setup (ReadCommands form old new result) w trace next

abbrev pub RanByClock : Form → Setup → ℕ → ClockSeen → ClockSeen → (fails : Type 0) → RunFault
    → World → List TraceEntry → World → Type 0
RanByClock form setup allowed old new fails fault w trace next =
    RanBy setup (ClockCommands form allowed old new fails (Err fault)) w trace next

-- The commands of a step were executed, or printing failed for one of these commands.
abbrev pub StepTaken : Form → Setup → Step → Result (Unit {0}) WriteFailed → World → List TraceEntry
    → World → Type 0
StepTaken form setup step (Ok done) w trace next = Session setup (step_commands step) w trace next
StepTaken form setup step (Err failed) w trace next =
    (commands : List Command) × (left : List Command)
    × (step_commands step ≡ commands ++ left) × (length left ≤ 1)
    × LastPrints form commands × Session setup commands w trace next

-- This many steps of a clock were taken.
abbrev pub StepsDone : Setup → TickSchedule → ℕ → ClockSeen → ClockSeen → TickSchedule → World
    → List TraceEntry → World → Type 0
StepsDone setup first count old now schedule w trace next =
    (steps : List Step) × (length steps ≡ count) × StepsBegin first steps old now schedule
    × Session setup (commands_of steps) w trace next

-- Sessions in terms of runs of a gateway and of scripts.
use Rattle.std.specs.Prelude.{◌≡◌, ℕ, Bool, true, false, List, ◌++◌, map, Option, Some}
use Rattle.std.specs.Io.KnownBytes.{Appends}
use Rattle.std.specs.List.{filter}
use Rattle.mg_engine.specs.Config.{IsValidConfig}
use Rattle.mg_core.specs.declared.event.Event.{Event}
use Rattle.mg_core.specs.declared.counts.Counts.{Counts}
use Rattle.mg_core.specs.declared.shown.Shown.TheVariants as shows
use Rattle.mg_core.specs.Run.{RanToEnd, lines_for}
use Rattle.mg_core.specs.Script as script
use Rattle.mg_core.specs.Step.{Sent, Run}
use Rattle.mg_core.specs.World.{World, start_of}
use Rattle.mg_lines.specs.Lines.{lines_of}
use Rattle.mg_ports.specs.declared.call.Call.{Call}
use Rattle.mg_ports.specs.declared.call.Call.TheVariants.{Send}
use Rattle.mg_serve.specs.declared.form.Form.TheVariants.{Recording}
use Rattle.mg_serve.specs.Serve.{opening}
use Rattle.mg_serve.specs.Session.{Session, send_of}
use Rattle.mg_serve.specs.Setup.{Setup}
use Rattle.mg_serve.specs.declared.command.Command.{Command}
use Rattle.mg_serve.specs.Trace.{TraceEntry, calls_of, events_of_trace, output_of}

abbrev pub is_send : Call → Bool
is_send (Send socket to bytes) = true
is_send _ = false

-- A session sends exactly the datagrams that a run over its events sends, in order.
pub record SendsAreARun (setup : Setup) (w : World) (trace : List TraceEntry) (next : World)
    : Type 0 where
  pub sent : List Sent
  pub run : Run w (events_of_trace trace) sent next
  pub sends : filter is_send (calls_of trace) ≡ map (send_of setup) sent

-- Every session sends exactly the datagrams that a run over its events sends.
abbrev pub SessionsAreRuns : Type 0
SessionsAreRuns =
    (setup : Setup) (commands : List Command) (w next : World) (trace : List TraceEntry)
    → Session setup commands w trace next → SendsAreARun setup w trace next

-- The text of a recording of a session.
abbrev pub recorded : List ℕ → List TraceEntry → List ℕ
recorded title trace = output_of Recording (opening (Some title) ++ trace)

-- A recording of a session is a script of its events.
abbrev pub SessionsAreReadBack : Type 0
SessionsAreReadBack =
    (setup : Setup) (title : List ℕ) (commands : List Command) (w next : World) (trace : List TraceEntry)
    → IsValidConfig setup.config → Session setup commands w trace next
    → script.events_of (lines_of true (recorded title trace)) ≡ Some (events_of_trace trace)

-- Wherever the recording of a session is truncated, its complete lines are a script of its first events.
abbrev pub CutSessionsAreReadBack : Type 0
CutSessionsAreReadBack =
    (setup : Setup) (title : List ℕ) (commands : List Command) (w next : World) (trace : List TraceEntry)
    (front rest : List ℕ) → IsValidConfig setup.config → Session setup commands w trace next
    → recorded title trace ≡ front ++ rest
    → (first : List Event) × (others : List Event) × (events_of_trace trace ≡ first ++ others)
    × (script.events_of (lines_of false front) ≡ Some first)

-- A run over a script wrote the lines for the datagrams that a session sent, and ended in the session's world. The
-- session sent the datagrams that a run over its events sends.
pub record WroteWhatWasSent (setup : Setup) (trace : List TraceEntry) (next last : World)
    (old new : Option (List ℕ)) : Type 0 where
  pub session : SendsAreARun setup (start_of setup.config) trace next
  pub written : Appends old new (lines_for session.sent)
  pub same : last ≡ next

-- A run over a recording repeats the session of a new gateway.
abbrev pub ReplaysAreTheSession : Type 0
ReplaysAreTheSession =
    (setup : Setup) (title : List ℕ) (commands : List Command) (next : World) (trace : List TraceEntry)
    (counts : Counts) (old new : Option (List ℕ)) → IsValidConfig setup.config
    → Session setup commands (start_of setup.config) trace next
    → (ran : RanToEnd (start_of setup.config) shows.Sent (recorded title trace) counts old new)
    → WroteWhatWasSent setup trace next ran.last old new

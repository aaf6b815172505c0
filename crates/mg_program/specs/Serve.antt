-- The effect of running a gateway on UDP ports.
use Rattle.std.specs.Prelude.{◌≡◌, ◌≢◌, ◌⊎◌, ℕ, ⊤, Bool, true, List, [], ◌∷◌, ◌++◌, drop, map, slice_get}
use Rattle.std.specs.Prelude.{Option, Result, Err, unwrap_or}
use Rattle.std.specs.List.{range_with_len}
use Rattle.mg_clock.specs.Ticks.{ClockSeen}
use Rattle.mg_engine.specs.Limits.{slot_port}
use Rattle.mg_engine.specs.declared.config.Config.{Config}
use Rattle.mg_engine.specs.Config.{IsValidConfig, limits_of}
use Rattle.mg_core.specs.declared.counts.Counts.{Counts}
use Rattle.mg_core.specs.World.{World}
use Rattle.mg_journal.specs.Journal.{JournalState}
use Rattle.mg_ports.specs.Journaled.{ports_seen}
use Rattle.mg_core.specs.declared.fault.RunFault.{RunFault}
use Rattle.mg_core.specs.declared.fault.RunFault.TheVariants as faults
use Rattle.mg_serve.specs.declared.command.Command.{Command}
use Rattle.mg_serve.specs.declared.form.Form.{Form}
use Rattle.mg_serve.specs.Serve.{ClockCommands, ReadCommands, Served, form_of}
use Rattle.mg_host.specs.declared.host_call.HostCall.{HostCall}
use Rattle.mg_host.specs.declared.host_call.HostCall.TheVariants.{Bind, BindAlso}
use Rattle.mg_host.specs.HostCalls.{Grows, IsLogged, port_calls}
use Rattle.mg_service.specs.declared.service.Service.{Service}
use Rattle.mg_service.specs.Setup.{setup_of}
use Rattle.mg_service.specs.Title.{title_if}
use Rattle.mg_start.specs.Journal.{RunsNoSession}
use Rattle.mg_start.specs.Start.{FailsToStart, Finds, HasStarted, IsChosen, Opens}
use Rattle.mg_options.specs.declared.status.Status.{Status}
use Rattle.mg_program.specs.Decisions.{HasDecided, Knows}
use Rattle.mg_program.specs.Status.{status_of}

-- The sockets of a gateway, in the order in which they are bound: the control socket, the media sockets, and a further
-- control socket for each address but the first. The control socket and the media sockets are bound to the first
-- address, if there is one, and otherwise to the addresses of the configuration.
abbrev pub binds_of : Config → (addresses : List (List ℕ)) → List HostCall
binds_of config addresses =
    let first = slice_get addresses 0 in
    Bind (unwrap_or first config.control_address) config.control_port true
    ∷ (map (λ slot. Bind (unwrap_or first config.address) (slot_port (limits_of config) slot) true)
    (range_with_len 0 config.slots)
    ++ map (λ address. BindAlso address config.control_port true) (drop 1 addresses))

-- The source of a gateway's commands: the lines of an input, or a clock, with its readings and waits in the run.
pub data Drive : Type 0 where
  ByLines : (input rest : Option (List ℕ)) → Drive
  ByClock : (late : ℕ) (clock : ClockSeen) → Drive

-- The source gives these commands in a run with this outcome. If the source is a clock, it is the host's, and nothing
-- has read it before the run.
abbrev pub Gives : Drive → Form → (begun : Option (List HostCall)) → Result Counts RunFault
    → List Command → Type 0
Gives (ByLines input rest) form begun outcome commands =
    ReadCommands form input rest outcome commands
Gives (ByClock late clock) form begun outcome commands =
    (unread : ClockSeen) × IsLogged begun unread.readings []
    × ClockCommands form late unread clock ⊤ outcome commands

-- A gateway whose ports were bound ran with this outcome. Before, it had started as `HasStarted` states: from the text
-- of its journal, if it keeps one and the text is known. If a recording was requested, the output is a recording. After
-- the start, the host did exactly what the session asked its ports to do, except for the calls that the gateway left
-- out.
pub record ServesOnPorts (drive : Drive) (config : Config) (service : Service)
    (held written text : Option (List ℕ)) (bound last : Option (List HostCall))
    (outcome : Result Counts RunFault) : Type 0 where
  pub sound : IsValidConfig config
  pub runs : outcome ≢ Err faults.BadConfig
  pub start : World
  pub reached : ℕ
  pub before : JournalState
  pub after : JournalState
  pub begun : Option (List HostCall)
  pub started : HasStarted service.journal text service.fence_from config start reached before bound
      begun
  pub served : let title = title_if service.records config in
      Served (setup_of config reached service) start title
      (Gives drive (form_of title) begun outcome) (ports_seen (port_calls begun) before)
      (ports_seen (port_calls last) after) held written outcome
  pub known : Knows
  pub decided : HasDecided begun last known

-- Either the ports of a gateway with this configuration were bound, the gateway ran, and the status says how the run
-- ended. Or the gateway failed to start, no session ran, and `unchanged` is true.
abbrev pub ServesChosen : Drive → (unchanged : Type 0) → Config → Service
    → (held written text : Option (List ℕ)) → (found last : Option (List HostCall)) → Status
    → Type 0
ServesChosen drive unchanged config service held written text found last status =
    ((outcome : Result Counts RunFault) × (bound : Option (List HostCall))
    × (status ≡ status_of outcome) × Grows found bound (binds_of config service.bind_addresses)
    × ServesOnPorts drive config service held written text bound last outcome)
    ⊎ (FailsToStart config status × RunsNoSession found last × unchanged)

-- Either the gateway's journal (if any) was opened, a configuration was chosen, perhaps with drawn numbers, and
-- `ServesChosen` holds. Or the gateway failed to start, with no call but the one that opens its journal, and
-- `unchanged` is true.
abbrev pub Serves : Drive → (unchanged : Type 0) → Config → Service → (draws : Bool)
    → (held written : Option (List ℕ)) → (before last : Option (List HostCall)) → Status → Type 0
Serves drive unchanged config service draws held written before last status =
    ((chosen : Config) × (text : Option (List ℕ)) × (found : Option (List HostCall))
    × Finds service.journal before found text
    × IsChosen text draws service.given config chosen
    × ServesChosen drive unchanged chosen service held written text found last status)
    ⊎ (FailsToStart config status × Opens service.journal before last × unchanged)

-- The output of `mg_bridge heard --never`, and its exit status.
use Rattle.std.specs.Prelude.{◌≡◌, ℕ, List, [], Option, Some, None, IfSome, is_some}
use Rattle.std.specs.Prelude.{if◌then◌else◌}
use Rattle.std.specs.Io.{StartsWith}
use Rattle.std.specs.List.{AllZip, flat_map, zip}
use Rattle.mg_engine.specs.declared.config.Config.{Config}
use Rattle.mg_core.specs.World.{World}
use Rattle.mg_heard.specs.declared.missing.Missing.{Missing}
use Rattle.mg_heard.specs.declared.violation.Violation.{Violation}
use Rattle.mg_heard.specs.Asked.{IsRule}
use Rattle.mg_heard.specs.Never.{IsWatched, WritesViolation}
use Rattle.mg_options.specs.declared.status.Status.{Status}
use Rattle.mg_options.specs.declared.status.Status.TheVariants.{Done, RuleBroken}
use Rattle.mg_arguments.specs.declared.watch_request.WatchRequest.{WatchRequest}
use Rattle.mg_service.specs.Script.{HasScript}
use Rattle.mg_service.specs.Title.{title_line}
use Rattle.mg_hearing.specs.Absence.{absences}
use Rattle.mg_hearing.specs.Heard.{IsStyle}
use Rattle.mg_hearing.specs.Page.{script_name}
use Rattle.mg_hearing.specs.declared.alarm.Alarm.{Alarm}
use Rattle.mg_host.specs.declared.host_call.HostCall.{HostCall}
use Rattle.mg_hearing.specs.Files.{ReadsFiles}

abbrev pub status_for : Option Violation → Status
status_for None = Done
status_for (Some v) = RuleBroken

-- A text begins with the title of the configuration with which its script is run. It was read to its end, or until
-- one of the rules was broken. Only the first violation is printed, and the status says whether there is a violation.
-- If there is none, the errors say exactly which talkers and listeners of the rules are missing: the gateway never had
-- them.
pub record IsAnswered (request : WatchRequest) (alarm : Alarm) (text old new : Option (List ℕ))
    (Says : List ℕ → Type 0) (status : Status) : Type 0 where
  pub config : Config
  pub titled : IfSome text (λ known. StartsWith known (title_line config))
  pub base : World
  pub script : Option (List ℕ)
  pub has_script : HasScript text config base script
  pub rest : Option (List ℕ)
  pub found : Option Violation
  pub missing : List Missing
  pub watched : IsWatched alarm.rules.items base script rest found missing
  pub written : WritesViolation alarm.style found old new
  pub status_is : status ≡ status_for found
  pub says : Says (if is_some found then [] else flat_map (λ p.
      absences (script_name request.file request.later) p.0.talker p.0.listener p.1) (zip request.rules missing))

-- The alarm that a request sets. Its rules are about the terminations that have the names in the request. The file of
-- names has all these names.
pub record IsSet (request : WatchRequest) (alarm : Alarm) : Type 0 where
  pub style : IsStyle request.printing alarm.style
  pub rules : AllZip (IsRule alarm.style.names) request.rules alarm.rules.items

-- The answer for the script in the input or in files.
abbrev pub IsAnsweredFrom : WatchRequest → (before after : Option (List HostCall))
    → (input old new : Option (List ℕ)) → (Says : List ℕ → Type 0) → Status → Type 0
IsAnsweredFrom request before after input old new Says status =
    (script : Option (List ℕ)) × (alarm : Alarm) × ReadsFiles request.file request.later before after input script
    × IsSet request alarm × IsAnswered request alarm script old new Says status

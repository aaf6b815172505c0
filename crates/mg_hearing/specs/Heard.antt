-- The output of `mg_bridge heard`, and its exit status.
use Rattle.std.specs.Prelude.{◌≡◌, ℕ, List, [], Option, Some, None, IfSome}
use Rattle.std.specs.Io.{StartsWith}
use Rattle.mg_engine.specs.declared.config.Config.{Config}
use Rattle.mg_core.specs.declared.state.CoreState.{CoreState}
use Rattle.mg_core.specs.Follow.{IsFollowed}
use Rattle.mg_core.specs.Note.{Note, events_in}
use Rattle.mg_core.specs.World.{World}
use Rattle.mg_dates.specs.declared.date.Date.{Date}
use Rattle.mg_heard.specs.declared.entry.Entry.{Entry}
use Rattle.mg_heard.specs.declared.extent.Extent.{Extent}
use Rattle.mg_heard.specs.declared.format.Format.{Format}
use Rattle.mg_heard.specs.declared.format.Format.TheVariants as formats
use Rattle.mg_heard.specs.declared.missing.Missing.{Missing}
use Rattle.mg_heard.specs.declared.verdict.Verdict.{Verdict}
use Rattle.mg_heard.specs.declared.verdict.Verdict.TheVariants.{CouldHear}
use Rattle.mg_heard.specs.declared.verdict.Verdict.TheVariants as verdicts
use Rattle.mg_heard.specs.declared.style.Style.{Style}
use Rattle.mg_heard.specs.Asked.{IsQuery}
use Rattle.mg_heard.specs.Came.{IsMissing, unless_missing}
use Rattle.mg_heard.specs.Reported.{WritesReport, WritesVerdict}
use Rattle.mg_heard.specs.Told.{TellsAll}
use Rattle.mg_heard.specs.Verdict.{verdict_at}
use Rattle.mg_options.specs.declared.status.Status.{Status}
use Rattle.mg_options.specs.declared.status.Status.TheVariants.{Done, CouldNotHear, Unknown}
use Rattle.mg_arguments.specs.declared.heard_request.HeardRequest.{HeardRequest}
use Rattle.mg_arguments.specs.declared.printing.Printing.{Printing}
use Rattle.mg_service.specs.Script.{HasScript}
use Rattle.mg_service.specs.Title.{title_line}
use Rattle.mg_hearing.specs.declared.question.Question.{Question}
use Rattle.mg_hearing.specs.Absence.{absences}
use Rattle.mg_hearing.specs.Page.{WritesPage, script_name}
use Rattle.mg_host.specs.declared.host_call.HostCall.{HostCall}
use Rattle.mg_hearing.specs.Files.{ReadsFiles}

-- The exit status that answers a question about a given time.
abbrev pub status_for : Verdict → Status
status_for (CouldHear x) = Done
status_for verdicts.CouldNotHear = CouldNotHear
status_for verdicts.Unknown = Unknown

-- The output about the intervals and gaps of a script, and about the time that the script covers. In the format `Page`,
-- it is a page. In the other formats, it is a line for each selected interval and gap or, for a given time, the line of
-- the answer. The status agrees with the output. If a listener or a talker is missing, the answer is not known.
abbrev pub Prints : Format → Option Date → HeardRequest → Question
    → (script old new : Option (List ℕ)) → Missing → Status → Extent → List Entry → Type 0
Prints formats.Page at request asked script old new missing status extent xs =
    WritesPage request asked script old new xs × (status ≡ unless_missing Unknown missing Done)
Prints format None request asked script old new missing status extent xs =
    WritesReport asked.style asked.query old new xs × (status ≡ unless_missing Unknown missing Done)
Prints format (Some time) request asked script old new missing status extent xs =
    let verdict = unless_missing verdicts.Unknown missing (verdict_at asked.query time extent xs) in
    WritesVerdict asked.style verdict old new × (status ≡ status_for verdict)

-- A text was read to its end. It begins with the title of the configuration with which its script is run, and `Told` is
-- true of the world in which the gateway began and of the script's notes.
pub record IsRead (text : Option (List ℕ)) (Told : World → List Note → Type 0) : Type 0 where
  pub config : Config
  pub titled : IfSome text (λ known. StartsWith known (title_line config))
  pub base : World
  pub script : Option (List ℕ)
  pub has_script : HasScript text config base script
  pub rest : Option (List ℕ)
  pub state : CoreState
  pub prints : IsFollowed base script rest state (Told base)

-- A script was read, and the output follows from all its intervals. The errors say exactly whether the question's
-- talker and listener are missing: the gateway never had them.
abbrev pub IsHeard : HeardRequest → Question → (script old new : Option (List ℕ))
    → (Says : List ℕ → Type 0) → Status → Type 0
IsHeard request asked script old new Says status = IsRead script (λ base notes. (missing : Missing)
    × IsMissing base (events_in notes) asked.query.talker missing.talker
    × IsMissing base (events_in notes) asked.query.listener missing.listener
    × Says (absences (script_name request.file request.later) request.query.talker request.query.listener missing)
    × TellsAll base notes (Prints asked.style.format asked.at request asked script old new missing status))

-- The style of an answer agrees with the request. The style has the requested format, and if there is no file of names,
-- no termination has a name. (No contract says what a file contains, or which time zones the system has.)
pub record IsStyle (printing : Printing) (style : Style) : Type 0 where
  pub format : style.format ≡ printing.format
  pub names : printing.names ≡ None → style.names ≡ []

-- The question that a request asks. Its query is about the terminations that have the names in the request. The file of
-- names has all these names.
pub record IsAsked (request : HeardRequest) (asked : Question) : Type 0 where
  pub style : IsStyle request.printing asked.style
  pub query : IsQuery asked.style.names request.query asked.query
  pub at : asked.at ≡ request.at

-- The output for the script in the input or in files.
abbrev pub IsHeardFrom : HeardRequest → (before after : Option (List HostCall))
    → (input old new : Option (List ℕ)) → (Says : List ℕ → Type 0) → Status → Type 0
IsHeardFrom request before after input old new Says status =
    (script : Option (List ℕ)) × (asked : Question)
    × ReadsFiles request.file request.later before after input script
    × IsAsked request asked × IsHeard request asked script old new Says status

-- The output of `mg_bridge heard --audible`.
use Rattle.std.specs.Prelude.{◌≡◌, ℕ, true, List, Option}
use Rattle.std.specs.List.{list_any}
use Rattle.mg_core.specs.Counting.{is_media}
use Rattle.mg_core.specs.Note.{events_in}
use Rattle.mg_heard.specs.Reported.{WritesReport}
use Rattle.mg_arguments.specs.declared.audible_request.AudibleRequest.{AudibleRequest}
use Rattle.mg_hearing.specs.declared.question.Question.{Question}
use Rattle.mg_hearing.specs.Heard.{IsAsked, IsRead}
use Rattle.mg_audible.specs.Told.{TellsAudible}
use Rattle.mg_host.specs.declared.host_call.HostCall.{HostCall}
use Rattle.mg_hearing.specs.Files.{ReadsFiles}

-- A script was read, and the output is about the intervals in which the talker is audible, as far as the query selects
-- them. If the script has an RTP datagram, `silent` holds, which says that no error is printed.
abbrev pub IsAudible : (talker : ℕ) → Question → (script old new : Option (List ℕ))
    → (silent : Type 0) → Type 0
IsAudible talker asked script old new silent = IsRead script (λ base notes.
    TellsAudible base talker notes (WritesReport asked.style asked.query old new)
    × (list_any is_media (events_in notes) ≡ true → silent))

-- The output about a talker, for the script in the input or in files.
abbrev pub IsAudibleFrom : AudibleRequest → (before after : Option (List HostCall))
    → (input old new : Option (List ℕ)) → (silent : Type 0) → Type 0
IsAudibleFrom request before after input old new silent =
    (script : Option (List ℕ)) × (asked : Question)
    × ReadsFiles request.heard.file request.heard.later before after input script
    × IsAsked request.heard asked × IsAudible request.talker asked script old new silent

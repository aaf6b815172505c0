-- The outcome of a command: its result, or the error of the first check that fails (RFC 3525, section 7.2). The error
-- numbers and the order of the checks are this project's own: support, the descriptors, the properties, the name, then
-- terminations and contexts.
use Rattle.std.specs.Prelude.{ℕ, ◌&&◌, not, List, [], ◌∷◌, map, Option, Some}
use Rattle.std.specs.Prelude.{None, is_some, Result, Ok, Err, codes, if◌then◌else◌}
use Rattle.std.specs.Option.{option_map}
use Rattle.mg_scan.specs.Span.{text_of}
use Rattle.mg_words.specs.Term.{rtp_name}
use Rattle.mg_words.specs.ResultSteps.{◌>>=◌}
use Rattle.mg_words.specs.declared.command_word.CommandWord.{CommandWord}
use Rattle.mg_words.specs.declared.command_word.CommandWord.TheVariants as words
use Rattle.mg_words.specs.declared.error_number.ErrorNumber.{ErrorNumber}
use Rattle.mg_words.specs.declared.error_number.ErrorNumber.TheVariants as errors
use Rattle.mg_reply.specs.declared.media.Media.{Media}
use Rattle.mg_reply.specs.declared.media.Media.TheVariants.{Local, Whole}
use Rattle.mg_reply.specs.declared.outcome.Parts.{Parts}
use Rattle.mg_rooms.specs.declared.record.Record.{Record}
use Rattle.mg_rooms.specs.declared.target.Target.{Target}
use Rattle.mg_rooms.specs.declared.target.Target.TheVariants as targets
use Rattle.mg_rooms.specs.Outcome.{member}
use Rattle.mg_rooms.specs.Registry.{members_at, record_at}
use Rattle.mg_rooms.specs.Results.{passes}
use Rattle.mg_engine.specs.Outcome as engine
use Rattle.mg_engine.specs.Gateway.{Gateway, stats_of}
use Rattle.mg_text.specs.declared.command.Command.{Command}
use Rattle.mg_commands.specs.declared.command_parameters.CommandParameters.{CommandParameters}
use Rattle.mg_commands.specs.declared.name.Name.{Name}
use Rattle.mg_commands.specs.declared.name.Name.TheVariants as names
use Rattle.mg_commands.specs.declared.served.Served.{Served}
use Rattle.mg_commands.specs.declared.reply_descriptors.ReplyDescriptors.{ReplyDescriptors}
use Rattle.mg_commands.specs.ReplyDescriptors.{descriptors_after, descriptors_by_audit}
use Rattle.mg_commands.specs.ReplyDescriptors.{descriptors_before}
use Rattle.mg_commands.specs.CommandParameters.{parameters_of}
use Rattle.mg_commands.specs.DescriptorFault.{descriptors_fault, properties_fault}
use Rattle.mg_commands.specs.Name.{name_of}
use Rattle.mg_commands.specs.Support.{is_served_word, takes_all}

-- ## Steps

abbrev pub unless : Option ErrorNumber → Result (Unit {0}) ErrorNumber
unless None = Ok tt
unless (Some e) = Err e

-- ## Checks of the text

-- The parameters of a command, if its text is supported. `W-`, which requests one reply for all matches (RFC 3525,
-- section 8.2.2), is not supported.
abbrev pub check_command : List ℕ → Command → Result CommandParameters ErrorNumber
check_command source c = do
  _ ← passes (is_served_word c.word && not c.wants_wildcard) errors.NotServed
  _ ← unless (descriptors_fault source c.descriptors)
  _ ← unless (properties_fault source c.descriptors)
  Ok (parameters_of source c.descriptors)

-- ## The names that a command is tried on

-- The members of an action's context, in order of entry. The list is empty if the context does not exist.
abbrev pub members_in : Gateway → Target → List ℕ
members_in w (targets.Number c) = members_at w.rooms c
members_in w _ = []

-- The names that `*` matches. There must be at least one.
abbrev pub unless_empty : List Name → Result (List Name) ErrorNumber
unless_empty [] = Err errors.WildcardMatchedNone
unless_empty (x ∷ xs) = Ok (x ∷ xs)

-- The names on which a command is tried, in order (RFC 3525, section 6.2.2). For `*`, these are the names of the
-- members when the command starts. Otherwise, it is the name in the command.
abbrev pub names_for : Gateway → Target → CommandWord → Name → Result (List Name) ErrorNumber
names_for w target word names.All =
    if takes_all word then unless_empty (map names.Number (members_in w target))
    else Err errors.IdentifierNotAllowed
names_for w target word name = Ok (name ∷ [])

-- ## Checks of the name

-- Checks that an Add requests a new termination instead of naming one.
abbrev pub check_new_name : Gateway → Name → Result (Unit {0}) ErrorNumber
check_new_name w names.Choose = Ok tt
check_new_name w (names.Number n) =
    Err (if is_some (record_at w.rooms n) then errors.AlreadyInContext
    else errors.UnknownTermination)
check_new_name w names.Other = Err errors.UnknownTermination
check_new_name w _ = Err errors.IdentifierNotAllowed

-- The number of the termination that a command names, or the error if the name denotes anything else.
abbrev pub number_in : Name → Result ℕ ErrorNumber
number_in (names.Number n) = Ok n
number_in names.Other = Err errors.UnknownTermination
number_in _ = Err errors.IdentifierNotAllowed

-- ## The parts that a reply reports

-- All settings of a termination's media.
abbrev pub whole_media : Record → Media
whole_media r = Whole (record { mode = r.mode; depth = r.depth }) r.local r.remote

-- All settings of a termination's media, or only its Local, as requested, or nothing.
abbrev pub reply_media : ReplyDescriptors → Record → Option Media
reply_media descriptors r =
    if descriptors.media then Some (whole_media r)
    else (if descriptors.local then option_map Local r.local else None)

abbrev pub reply_parts : ReplyDescriptors → Gateway → Record → Parts
reply_parts descriptors w r =
    record {
      media = reply_media descriptors r;
      statistics = if descriptors.statistics then stats_of w r.number else None;
    }

-- ## Commands

abbrev pub CommandOutcome : Type 0
CommandOutcome = Result (Gateway × Served) ErrorNumber

-- The result of a command with this termination name and these parts.
abbrev pub served_as : Target → List ℕ → Parts → Served
served_as target term parts =
    record { target = target; made = None; term = term; parts = parts }

-- The result of a command on a termination.
abbrev pub served_at : Gateway → Target → Record → ReplyDescriptors → Served
served_at w target r descriptors =
    served_as target (rtp_name r.number) (reply_parts descriptors w r)

-- The result of a command that put the termination into a context.
abbrev pub entered_at : Gateway → Record → ReplyDescriptors → Served
entered_at w r descriptors = served_at w (targets.Number r.context) r descriptors

-- The audit of `ROOT`, which is allowed only in the null context and has no parts.
abbrev pub audit_root : Target → Result Served ErrorNumber
audit_root targets.Null =
    Ok (served_as targets.Null (codes "ROOT") (record { media = None; statistics = None }))
audit_root _ = Err errors.IdentifierNotAllowed

abbrev pub audit_outcome : Gateway → Target → Name → CommandParameters → Result Served ErrorNumber
audit_outcome w target names.Root parameters = audit_root target
audit_outcome w target name parameters = do
  n ← number_in name
  r ← member w.rooms target n
  Ok (served_at w target r (descriptors_by_audit parameters))

-- The outcome of a command for one name, after its text has been checked.
unfoldable pub outcome : CommandWord → Gateway → Target → Name → CommandParameters
    → CommandOutcome
outcome words.Add w target name parameters = do
  _ ← check_new_name w name
  p ← engine.add w target parameters.settings
  Ok (p.0, record (entered_at p.0 p.1 (descriptors_after parameters)) { made = Some p.1.number })
outcome words.Modify w target name parameters = do
  n ← number_in name
  p ← engine.modify w target n parameters.settings
  Ok (p.0, served_at p.0 target p.1 (descriptors_after parameters))
outcome words.Move w target name parameters = do
  n ← number_in name
  p ← engine.move_to w target n parameters.settings
  Ok (p.0, entered_at p.0 p.1 (descriptors_after parameters))
outcome words.Subtract w target name parameters = do
  n ← number_in name
  p ← engine.subtract w target n
  Ok (p.0, served_at w target p.1 (descriptors_before parameters))
outcome words.AuditValue w target name parameters =
    audit_outcome w target name parameters >>= (λ s. Ok (w, s))
outcome _ w target name parameters = Err errors.NotServed

-- The parameters of a command, and the names on which it is tried.
pub record Trial : Type 0 where
  pub parameters : CommandParameters
  pub names : List Name

-- The checks before any name is tried: support, the descriptors, the properties and, for *, whether
-- it is allowed and matches a member.
abbrev pub trial_of : List ℕ → Gateway → Target → Command → Result Trial ErrorNumber
trial_of source w target c = do
  parameters ← check_command source c
  xs ← names_for w target c.word (name_of (text_of source c.term))
  Ok (record { parameters = parameters; names = xs })

-- Parts of the outcomes of commands and actions, one for each function of the program.
use Rattle.std.specs.Prelude.{ℕ, ◌&&◌, not, Bool, List, map, Option, Result, Ok, Err, if◌then◌else◌}
use Rattle.std.specs.Option.{option_map_or}
use Rattle.mg_words.specs.ResultSteps.{◌>>=◌}
use Rattle.mg_words.specs.declared.command_word.CommandWord.{CommandWord}
use Rattle.mg_words.specs.declared.error_number.ErrorNumber.{ErrorNumber}
use Rattle.mg_words.specs.declared.error_number.ErrorNumber.TheVariants as errors
use Rattle.mg_rooms.specs.declared.target.Target.{Target}
use Rattle.mg_rooms.specs.Outcome.{member}
use Rattle.mg_engine.specs.Gateway.{Gateway}
use Rattle.mg_text.specs.declared.command.Command.{Command}
use Rattle.mg_text.specs.declared.descriptor.Descriptor.{Descriptor}
use Rattle.mg_text.specs.declared.request.Action.{Action}
use Rattle.mg_commands.specs.declared.command_parameters.CommandParameters.{CommandParameters}
use Rattle.mg_commands.specs.declared.name.Name.{Name}
use Rattle.mg_commands.specs.declared.name.Name.TheVariants as names
use Rattle.mg_commands.specs.declared.served.Served.{Served}
use Rattle.mg_commands.specs.CommandParameters.{parameters_of}
use Rattle.mg_commands.specs.DescriptorFault.{descriptors_fault, properties_fault}
use Rattle.mg_commands.specs.ReplyDescriptors.{descriptors_by_audit}
use Rattle.mg_commands.specs.Outcome.{CommandOutcome, unless, members_in, unless_empty}
use Rattle.mg_commands.specs.Outcome.{number_in, served_at}
use Rattle.mg_commands.specs.Support.{is_served_word, takes_all}
use Rattle.mg_commands.specs.aids.ByActions.{ActionsState, action_start, after_commands, refusal}
use Rattle.mg_commands.specs.aids.ByActions.{with_commands}

abbrev pub is_served : Command → Bool
is_served c = is_served_word c.word && not c.wants_wildcard

-- The parameters of the descriptors, if they are supported.
abbrev pub check_descriptors : List ℕ → List Descriptor → Result CommandParameters ErrorNumber
check_descriptors source xs = do
  _ ← unless (descriptors_fault source xs)
  _ ← unless (properties_fault source xs)
  Ok (parameters_of source xs)

-- The outcome of a command that leaves the gateway unchanged.
abbrev pub in_same_world : Gateway → Result Served ErrorNumber → CommandOutcome
in_same_world w r = r >>= (λ s. Ok (w, s))

-- The names of all members, which `*` matches, or the error if there are none or the command may not name them all.
abbrev pub all_names : Gateway → Target → CommandWord → Result (List Name) ErrorNumber
all_names w target word =
    if takes_all word then unless_empty (map names.Number (members_in w target))
    else Err errors.IdentifierNotAllowed

-- The result of an audit of a termination.
abbrev pub audit_termination : Gateway → Target → Name → CommandParameters
    → Result Served ErrorNumber
audit_termination w target name parameters = do
  n ← number_in name
  r ← member w.rooms target n
  Ok (served_at w target r (descriptors_by_audit parameters))

-- The result of an action, given the error that rejects the action as a whole, or `None`.
abbrev pub action_unless : Option ErrorNumber → List ℕ → Action → ActionsState
    → ActionsState × Bool
action_unless fault source a s =
    option_map_or (refusal a s) fault
    (after_commands source a.properties (with_commands source a.commands (action_start a s)))

-- The command line, as its parser represents it, and the run that the arguments request.
use Rattle.std.specs.Prelude.{ℕ, Bool, true, false, if◌then◌else◌, List, [], ◌∷◌, Option, Some}
use Rattle.std.specs.Prelude.{None, is_some, unwrap_or, option_and_then, ok_or, Result, Ok, Err}
use Rattle.std.specs.Prelude.{codes, drop, fold, length, ◌||◌, ◌&&◌, ◌==◌}
use Rattle.std.specs.Option.{option_map_or}
use Rattle.std.specs.Str.{bytes_eq}
use Rattle.clap.specs.Walk.{Row, Rule, Text, all_of, first_of}
use Rattle.clap.specs.Simple.{App, new_app, new_rule, on_top, subcommand_of, with_rule}
use Rattle.clap.specs.Simple.{with_subcommand}
use Rattle.clap.specs.Kinds.{Kinds}
use Rattle.clap.specs.Faults.{fault_of}
use Rattle.clap.specs.declared.builder.action.ArgAction.TheVariants.{Append, SetTrue}
use Rattle.clap.specs.declared.error.kind.ErrorKind.TheVariants.{ValueValidation}
use Rattle.mg_words.specs.ResultSteps.{◌>>=◌}
use Rattle.mg_options.specs.Requested.{requested_by}
use Rattle.mg_options.specs.Line.{program_line, text_rule}
use Rattle.mg_options.specs.Numbers.{number_given, number_or, number_rule}
use Rattle.mg_core.specs.Peer.{peer_of}
use Rattle.mg_core.specs.declared.shown.Shown.TheVariants.{Sent, SentAndFlows}
use Rattle.mg_dates.specs.Dates.{date_of_text}
use Rattle.mg_heard.specs.declared.format.Format.{Format}
use Rattle.mg_heard.specs.declared.format.Format.TheVariants as formats
use Rattle.mg_heard.specs.declared.asked.Asked.{Asked}
use Rattle.mg_heard.specs.declared.asked_query.AskedQuery.{AskedQuery}
use Rattle.mg_heard.specs.declared.asked_rule.AskedRule.{AskedRule}
use Rattle.mg_heard.specs.Asked.{asked_by}
use Rattle.mg_heard.specs.declared.asked.Asked.TheVariants.{Key}
use Rattle.mg_heard.specs.declared.party_name.PartyName.TheVariants.{Termination}
use Rattle.mg_engine.specs.declared.config.Config.{Config}
use Rattle.mg_journal.specs.declared.durability.Durability.{Durability}
use Rattle.mg_journal.specs.declared.durability.Durability.TheVariants.{Written, Synced}
use Rattle.mg_arguments.specs.declared.printing.Printing.{Printing}
use Rattle.mg_service.specs.declared.config_options.ConfigOptions.{ConfigOptions}
use Rattle.mg_service.specs.ConfigOptions.{config_of}
use Rattle.mg_arguments.specs.declared.heard_request.HeardRequest.{HeardRequest}
use Rattle.mg_arguments.specs.declared.invocation.Invocation.{Invocation}
use Rattle.mg_arguments.specs.declared.invocation.Invocation.TheVariants.{Replay, Serve, Live, Check}
use Rattle.mg_arguments.specs.declared.invocation.Invocation.TheVariants.{Heard, Watch, Audible}
use Rattle.mg_arguments.specs.declared.invocation.Invocation.TheVariants.{Verify, Seal}
use Rattle.mg_service.specs.declared.service.Service.{Service}
use Rattle.mg_service.specs.declared.controller_fault.ControllerFault.{ControllerFault}
use Rattle.mg_service.specs.Address.{bind_addresses_of, own_address}
use Rattle.mg_service.specs.Controllers.{controllers_of}
use Rattle.mg_service.specs.FilePath.{file_path}
use Rattle.mg_service.specs.Read.{all_read}
use Rattle.mg_service.specs.declared.file_path_fault.FilePathFault.{FilePathFault}
use Rattle.mg_arguments.specs.declared.rule_fault.RuleFault.{RuleFault}
use Rattle.mg_arguments.specs.Rules.{rules_of}
use Rattle.mg_arguments.specs.ZoneName.{zone_name}

-- ## The command line

-- The options of a gateway's configuration. Each option may be given once.
unfoldable pub options : List Rule
options = text_rule (codes "address") ∷ text_rule (codes "control-address")
    ∷ number_rule (codes "control-port") 0 65535
    ∷ number_rule (codes "base-port") 0 65535 ∷ number_rule (codes "slots") 0 65535
    ∷ number_rule (codes "first-termination") 0 4294967295
    ∷ number_rule (codes "first-context") 0 4294967295
    ∷ number_rule (codes "ssrc") 0 4294967295 ∷ number_rule (codes "sequence") 0 65535
    ∷ number_rule (codes "timestamp") 0 4294967295 ∷ []

-- A subcommand with the options of a gateway's configuration.
abbrev pub subcommand_line : Text → App
subcommand_line name = fold with_rule (new_app name) options

-- An option that may be given several times.
abbrev pub repeated_rule : Text → Rule
repeated_rule name = record (text_rule name) { action = Some Append }

-- A flag: an option without a value, which is set if it is given.
abbrev pub flag_rule : Text → Rule
flag_rule name = record (new_rule name) { long = Some name; action = Some SetTrue }

-- A subcommand for a gateway on sockets.
abbrev pub sockets_line : Text → App
sockets_line name =
    fold with_rule (subcommand_line name) (repeated_rule (codes "bind-address")
    ∷ repeated_rule (codes "controller")
    ∷ number_rule (codes "report") 0 65535 ∷ flag_rule (codes "record")
    ∷ flag_rule (codes "symmetric-rtp") ∷ text_rule (codes "journal") ∷ flag_rule (codes "sync")
    ∷ number_rule (codes "checkpoint-every") 0 4294967295 ∷ flag_rule (codes "fence") ∷ flag_rule (codes "fence-strict")
    ∷ number_rule (codes "fence-from") 0 4294967295 ∷ [])

-- The subcommand that runs a script.
abbrev pub replay_line : App
replay_line = with_rule (subcommand_line (codes "replay")) (flag_rule (codes "flows"))

-- The argument that names the gateway to check.
abbrev pub gateway_rule : Rule
gateway_rule = record (new_rule (codes "gateway")) { value_names = 1; required = true }

-- The subcommand that checks a gateway.
abbrev pub check_line : App
check_line = with_rule (with_rule (new_app (codes "check")) gateway_rule) (text_rule (codes "source"))

-- The argument that names a script.
abbrev pub script_rule : Rule
script_rule = record (new_rule (codes "file")) { value_names = 1 }

-- The argument that names the files of a script. It may be given several times.
abbrev pub files_rule : Rule
files_rule = record script_rule { action = Some Append }

-- The files and the options of the subcommand that reports who could hear whom.
unfoldable pub heard_options : List Rule
heard_options = files_rule ∷ text_rule (codes "listener") ∷ text_rule (codes "talker")
    ∷ text_rule (codes "at") ∷ text_rule (codes "from") ∷ text_rule (codes "to")
    ∷ flag_rule (codes "audible") ∷ repeated_rule (codes "never") ∷ text_rule (codes "zone")
    ∷ text_rule (codes "names") ∷ text_rule (codes "format") ∷ flag_rule (codes "report") ∷ []

-- The subcommand that reports who could hear whom.
abbrev pub heard_line : App
heard_line = fold with_rule (new_app (codes "heard")) heard_options

-- The subcommand that checks seals.
abbrev pub verify_line : App
verify_line = with_rule (new_app (codes "verify")) files_rule

-- The subcommand that adds seals to a recording.
abbrev pub seal_line : App
seal_line = new_app (codes "seal")

-- The subcommand for a gateway that is driven by a clock.
abbrev pub live_line : App
live_line =
    with_rule (with_rule (sockets_line (codes "live")) (number_rule (codes "late") 0 65535))
    (text_rule (codes "metrics"))

-- The command line, which requires one of the subcommands.
unfoldable pub command_line : App
command_line =
    with_subcommand (with_subcommand (with_subcommand (with_subcommand (with_subcommand
    (with_subcommand (with_subcommand (on_top (λ top. record top { subcommand_required = true }) (program_line (codes "mg_bridge")))
    replay_line.top) (sockets_line (codes "serve")).top) live_line.top) check_line.top)
    heard_line.top) verify_line.top) seal_line.top

-- ## The values of the options

-- Whether a flag is set.
abbrev pub is_set : Text → List Row → Bool
is_set name found =
    option_map_or (λ text. bytes_eq text (codes "true")) (first_of name found) false

-- The controllers that the options name.
abbrev pub controllers_in : List Row → Result (List (List ℕ)) ControllerFault
controllers_in found = controllers_of (unwrap_or (all_of (codes "controller") found) [])

-- The value of an option's text, or `None` if the option isn't given.
abbrev pub named_by : {A E : Type 0} → (Text → Result A E) → Text → List Row → Result (Option A) E
named_by read name found = option_map_or (λ text. read text >>= (λ value. Ok (Some value)))
    (first_of name found) (Ok None)

-- How durably messages are appended to a journal. Only a journal can be synced.
abbrev pub durability_in : (journal : Option Text) → List Row → Result Durability Kinds
durability_in journal found =
    if is_set (codes "sync") found
    then option_map_or (λ path. Ok Synced) journal (Err (ValueValidation ∷ [])) else Ok Written

abbrev pub is_given : Text → List Row → Bool
is_given name found = is_some (first_of name found)

-- Whether the fence is strict, or `None` if there is no fence. A fence requires a list of controllers.
abbrev pub fence_in : (listed : List (List ℕ)) → List Row → Result (Option Bool) Kinds
fence_in listed found =
    let strict = is_set (codes "fence-strict") found in
    if strict || (is_set (codes "fence") found || is_given (codes "fence-from") found)
    then (if length listed == 0 then Err (ValueValidation ∷ []) else Ok (Some strict)) else Ok None

-- ## The run that the arguments request

-- The value that was read. If no value was read, the arguments are invalid.
abbrev pub valid : {A E : Type 0} → Result A E → Result A Kinds
valid (Ok value) = Ok value
valid (Err fault) = Err (ValueValidation ∷ [])

-- The options of a gateway's configuration. An option that isn't given has no value.
abbrev pub options_in : List Row → Result ConfigOptions Kinds
options_in found = do
  address ← valid (named_by own_address (codes "address") found)
  control ← valid (named_by own_address (codes "control-address") found)
  Ok (record {
    address = address;
    control_address = control;
    control_port = number_given 65536 (codes "control-port") found;
    base_port = number_given 65536 (codes "base-port") found;
    slots = number_given 65536 (codes "slots") found;
    first_termination = number_given 4294967296 (codes "first-termination") found;
    first_context = number_given 4294967296 (codes "first-context") found;
    ssrc = number_given 4294967296 (codes "ssrc") found;
    sequence = number_given 65536 (codes "sequence") found;
    timestamp = number_given 4294967296 (codes "timestamp") found;
  })

-- The options of a gateway on sockets, with these options of its configuration.
abbrev pub service_in : ConfigOptions → List Row → Result Service Kinds
service_in given found = do
  controllers ← valid (controllers_in found)
  bound ← valid (bind_addresses_of (unwrap_or (all_of (codes "bind-address") found) []))
  metrics ← valid (named_by file_path (codes "metrics") found)
  journal ← valid (named_by file_path (codes "journal") found)
  durability ← durability_in journal found
  fence ← fence_in controllers found
  Ok (record {
    controllers = controllers;
    bind_addresses = bound;
    report = number_or 65536 (codes "report") 0 found;
    records = is_set (codes "record") found;
    symmetric_rtp = is_set (codes "symmetric-rtp") found;
    metrics = metrics;
    journal = journal;
    durability = durability;
    checkpoint_every = number_or 4294967296 (codes "checkpoint-every") 0 found;
    fence = fence;
    fence_from = number_given 4294967296 (codes "fence-from") found;
    given = given;
  })

-- The run that a subcommand requests. In `Live`, the number is the maximum lateness of a tick, in ticks: the packets of
-- a later tick are not sent.
abbrev pub run_of : Text → Config → Service → List Row → Invocation
run_of name config service found =
    if bytes_eq name (codes "serve") then Serve config service
    else (if bytes_eq name (codes "live")
    then Live config service (number_or 65536 (codes "late") 5 found)
    else Replay config (if is_set (codes "flows") found then SentAndFlows else Sent))

-- The check of the gateway that the argument names. Its messages come from the address that an option names, or by
-- default from 0.0.0.0, which is any address.
abbrev pub check_in : List Row → Result Invocation Kinds
check_in found = do
  source ← valid (named_by own_address (codes "source") found)
  option_map_or (λ gateway. Ok (Check gateway (unwrap_or source (0 ∷ 0 ∷ 0 ∷ 0 ∷ []))))
      (option_and_then peer_of (first_of (codes "gateway") found)) (Err (ValueValidation ∷ []))

-- The run that a gateway's subcommand requests with these options.
abbrev pub gateway_in : Text → List Row → Result Invocation Kinds
gateway_in name found = do
  given ← options_in found
  service ← service_in given found
  Ok (run_of name (config_of given) service found)

-- ## Who could hear whom

-- The value that `read` gives the option's text, or `None` if the option isn't given. If the text has no value, the
-- arguments are invalid.
abbrev pub value_by : {A : Type 0} → (Text → Option A) → Text → List Row → Result (Option A) Kinds
value_by read name found = named_by (λ text. ok_or (read text) (ValueValidation ∷ [])) name found

abbrev pub format_of : Text → Option Format
format_of text =
    if bytes_eq text (codes "text") then Some formats.Text
    else (if bytes_eq text (codes "csv") then Some formats.Csv
    else (if bytes_eq text (codes "json") then Some formats.Json else None))

-- The terminations that a text selects: by a key or, if a file of names is given, by a name.
abbrev pub asked_in : List Row → Text → Option Asked
asked_in found = asked_by (is_given (codes "names") found)

-- The query that the options make.
abbrev pub query_in : List Row → Result AskedQuery Kinds
query_in found = do
  listener ← value_by (asked_in found) (codes "listener") found
  talker ← value_by (asked_in found) (codes "talker") found
  from ← value_by date_of_text (codes "from") found
  until ← value_by date_of_text (codes "to") found
  Ok (record { listener = listener; talker = talker; from = from; until = until })

-- Whether an option is given that a page doesn't allow: --format, --at or --audible.
abbrev pub reshapes_page : List Row → Bool
reshapes_page found =
    is_given (codes "format") found
    || (is_given (codes "at") found || is_set (codes "audible") found)

-- The format in which answers are printed: a page, or the format that the option names, which is text by default.
abbrev pub form_in : List Row → Result Format Kinds
form_in found =
    if is_set (codes "report") found
    then (if reshapes_page found then Err (ValueValidation ∷ []) else Ok formats.Page)
    else (value_by format_of (codes "format") found
    >>= (λ format. Ok (unwrap_or format formats.Text)))

-- The style in which answers about a script are printed.
abbrev pub printing_in : List Row → Result Printing Kinds
printing_in found = do
  format ← form_in found
  zone ← value_by zone_name (codes "zone") found
  names ← valid (named_by file_path (codes "names") found)
  Ok (record { format = format; zone = zone; names = names })

-- The files after the first one.
abbrev pub later_in : List Row → Result (List (List ℕ)) FilePathFault
later_in found = all_read file_path (drop 1 (unwrap_or (all_of (codes "file") found) []))

-- The question that the options ask about a script.
abbrev pub request_in : List Row → Result HeardRequest Kinds
request_in found = do
  query ← query_in found
  time ← value_by date_of_text (codes "at") found
  printing ← printing_in found
  file ← valid (named_by file_path (codes "file") found)
  later ← valid (later_in found)
  Ok (record {
    file = file;
    later = later;
    printing = printing;
    query = query;
    at = time;
  })

-- Whether a question asks about both a single time and a period, which contradict each other.
abbrev pub asks_for_two_times : HeardRequest → Bool
asks_for_two_times request =
    is_some request.at && (is_some request.query.from || is_some request.query.until)

abbrev pub heard_of : HeardRequest → Result Invocation Kinds
heard_of request =
    if asks_for_two_times request then Err (ValueValidation ∷ []) else Ok (Heard request)

-- The number in a key, if the key is a termination's number.
abbrev pub number_named : Option Asked → Option ℕ
number_named (Some (Key (Termination n))) = Some n
number_named other = None

-- The run that answers when a talker was audible. The talker must be given by number, and the question can't be about a
-- single time.
abbrev pub audible_of : HeardRequest → Result Invocation Kinds
audible_of request =
    if is_some request.at then Err (ValueValidation ∷ [])
    else option_map_or (λ n. Ok (Audible (record { talker = n; heard = request })))
    (number_named request.query.talker) (Err (ValueValidation ∷ []))

-- Whether an option is given that rules don't allow: --listener, --talker, --at, --from, --to, --audible or --report.
abbrev pub selects_part : List Row → Bool
selects_part found =
    is_given (codes "listener") found || (is_given (codes "talker") found
    || (is_given (codes "at") found || (is_given (codes "from") found
    || (is_given (codes "to") found || (is_set (codes "audible") found
    || is_set (codes "report") found)))))

abbrev pub rules_in : List Row → Result (List AskedRule) RuleFault
rules_in found =
    rules_of (is_given (codes "names") found) (unwrap_or (all_of (codes "never") found) [])

-- The run that checks whether a script obeys the rules on the command line.
abbrev pub watch_in : List Row → Result Invocation Kinds
watch_in found = do
  rules ← valid (rules_in found)
  printing ← printing_in found
  file ← valid (named_by file_path (codes "file") found)
  later ← valid (later_in found)
  if selects_part found then Err (ValueValidation ∷ []) else Ok (Watch (record {
    file = file;
    later = later;
    printing = printing;
    rules = rules;
  }))

-- The run for the question or for the rules on the command line.
abbrev pub script_in : List Row → Result Invocation Kinds
script_in found =
    if is_given (codes "never") found then watch_in found
    else (if is_set (codes "audible") found then request_in found >>= audible_of
    else request_in found >>= heard_of)

-- The check of the seals in files, or in the input.
abbrev pub verify_in : List Row → Result Invocation Kinds
verify_in found = do
  file ← valid (named_by file_path (codes "file") found)
  later ← valid (later_in found)
  Ok (Verify file later)

-- The run that a subcommand requests with these options and arguments.
abbrev pub run_in : Text → List Row → Result Invocation Kinds
run_in name found =
    if bytes_eq name (codes "check") then check_in found
    else (if bytes_eq name (codes "heard") then script_in found
    else (if bytes_eq name (codes "verify") then verify_in found
    else (if bytes_eq name (codes "seal") then Ok Seal else gateway_in name found)))

-- The run that the words request. They request no run if the parser reports an error, if a text is not a valid value of
-- its option, or if an option contradicts another one or lacks one that it needs.
unfoldable pub requested : List Text → Result Invocation Kinds
requested words = requested_by (fault_of command_line words) (option_map_or
    (λ found. run_in found.0 found.1) (subcommand_of command_line words) (Err []))

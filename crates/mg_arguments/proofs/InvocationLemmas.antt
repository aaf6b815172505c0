-- The run that the arguments request, depending on whether the command line finds a fault in them.
use Rattle.std.proofs.Common.{◌≡◌, ◌∙◌, ◌&&◌, ℕ, Bool, true, false, not, List, [], ◌∷◌, Option, Some, None, is_some, inl, inr, refl, sym, ap, ap₂, true≢false, Result, Ok, Err, codes}
use Rattle.std.specs.Prelude.{Box, IfErr, IsErrAnd, option_and_then, option_map, unwrap_or}
use Rattle.std.specs.List.{list_any}
use Rattle.std.specs.Option.{option_map_or}
use Rattle.std.specs.Box.{box_value}
use Rattle.clap.specs.Facts.{explicit_source}
use Rattle.clap.specs.Walk.{Held, Names, Row, Text, finished, first_of, nothing_held, settled_rows, stop_after, walk, walk_from}
use Rattle.clap.specs.Simple.{App, HasMatchesOf, Shape, argument_words, built, names_of, subcommand_of, subcommand_rows, subcommand_rows_of}
use Rattle.clap.specs.Kinds.{Kinds, check_kinds, or_else}
use Rattle.clap.specs.Faults.{defaults_fault, entered_fault, fault_of, is_simple_and_free, level_fault, settle_fault, walk_fault}
use Rattle.clap.specs.Matches.{has_subcommand, subcommand_name_of}
use Rattle.clap.specs.Values.{kind_of}
use Rattle.clap.specs.declared.error.Error.{Error}
use Rattle.clap.specs.declared.error.kind.ErrorKind.{ErrorKind}
use Rattle.clap.specs.declared.error.kind.ErrorKind.TheVariants.{OutOfMemory, ValueValidation}
use Rattle.clap.specs.declared.parser.matches.ArgMatches.{ArgMatches}
use Rattle.clap.specs.declared.parser.matches.ArgMatches.TheViews.{out-ArgMatches, out-SubCommand}
use Rattle.clap.specs.declared.parser.matches.SubCommand.{SubCommand}
use Rattle.mg_words.specs.ResultSteps.{◌>>=◌}
use Rattle.mg_options.specs.Requested.{IsRefused, requested_by}
use Rattle.mg_options.proofs.RequestedLemmas.{no_fault, subcommand_is}
use Rattle.mg_engine.specs.declared.config.Config.{Config}
use Rattle.mg_arguments.specs.declared.invocation.Invocation.{Invocation}
use Rattle.mg_arguments.specs.declared.invocation.Invocation.TheVariants.{Check}
use Rattle.mg_core.specs.Peer.{peer_of}
use Rattle.mg_words.specs.declared.peer.Peer.{Peer}
use Rattle.mg_service.specs.declared.address.AddressFault.{AddressFault}
use Rattle.mg_service.specs.declared.service.Service.{Service}
use Rattle.mg_service.specs.declared.config_options.ConfigOptions.{ConfigOptions}
use Rattle.mg_service.specs.Address.{own_address}
use Rattle.mg_service.specs.ConfigOptions.{config_of}
use Rattle.mg_arguments.specs.Options.{check_in, command_line, gateway_in, heard_options, named_by, options, options_in, requested, run_in, run_of, service_in, valid}

abbrev has_kinds : Kinds → Bool
has_kinds [] = false
has_kinds (kind ∷ kinds) = true

or_else-nil : (first next : Kinds) → or_else first next ≡ [] → next ≡ []
or_else-nil [] next none = none
or_else-nil (kind ∷ kinds) next none = absurd (true≢false (ap has_kinds none))

met_where_wanted : (met help wants argument : Bool) → wants ≡ true →
    check_kinds (not met && help) (not met && wants) argument ≡ [] → met ≡ true
met_where_wanted true help wants argument wanted none = refl
met_where_wanted false true wants argument wanted none = absurd (true≢false (ap has_kinds none))
met_where_wanted false false true argument wanted none = absurd (true≢false (ap has_kinds none))
met_where_wanted false false false argument wanted none = absurd (true≢false (sym wanted))

-- If a level of the command line requires a subcommand and has no fault, a subcommand was found.
level_met : (level : Shape) (names : Names) (held : Held) (words : List Text) (met : Bool) (below : Kinds) →
    level.subcommand_required ≡ true
    → level_fault level names held words met below ≡ [] → met ≡ true
level_met level names held words met below wanted none =
    let end = (walk level.rules names held words).held in
    let walked = or_else-nil (walk_fault level names (walk_from held) words) _ none in
    let entered = or_else-nil below _ walked in
    let settled = or_else-nil (settle_fault level.rules level.args_override_self end) _ entered in
    let filled = or_else-nil (defaults_fault (settled_rows level.rules end.pending end.rows) level.rules) _ settled in
    met_where_wanted met
    (level.arg_required_else_help && not (list_any (λ (r : Row). explicit_source r.source) (finished level.rules end)))
    level.subcommand_required _ wanted filled

wants_subcommand : (built command_line).top.subcommand_required ≡ true
unfolding command_line
wants_subcommand = refl

pub is_simple_line : is_simple_and_free command_line ≡ true
unfolding command_line options heard_options
is_simple_line = refl

has_met : (words : List Text) → fault_of command_line words ≡ [] → is_some (subcommand_of command_line words) ≡ true
has_met words none = level_met (built command_line).top (names_of (built command_line)) nothing_held
    (argument_words command_line words)
    (is_some (subcommand_of command_line words))
    (entered_fault (built command_line) (stop_after (built command_line).top.rules (names_of (built command_line))
    (argument_words command_line words))) wants_subcommand none

run_by : (kinds : Kinds) (found : Option (Text × List Row)) (run : Text × List Row) → kinds ≡ [] → found ≡ Some run
    → requested_by kinds (option_map_or (λ (f : Text × List Row). run_in f.0 f.1) found (Err [])) ≡ run_in run.0 run.1
run_by kinds found run none is =
    ap₂ (λ (ks : Kinds) (o : Option (Text × List Row)). requested_by ks (option_map_or
    (λ (f : Text × List Row). run_in f.0 f.1) o (Err []))) none is

pub is_some-map : {A B : Type 0} (f : A → B) (o : Option A) → is_some (option_map f o) ≡ is_some o
is_some-map f None = refl
is_some-map f (Some a) = refl

both_found : {Z : Type 0} (o : Option (Box SubCommand Z)) (name : Text) (rows : List Row) →
    Some name ≡ option_map (λ b. (out-SubCommand (box_value b)).name.now) o
    → Some rows ≡ option_map (λ f. f.1) (subcommand_rows o) → subcommand_rows o ≡ Some (name, rows)
both_found None name rows named found = cc
both_found (Some b) name rows named found = cc

-- The results of parsing words by the program's command line.
module _ (line : App) (words : List Text) (is : line ≡ command_line) where
  -- If the words have no fault, the matches have a subcommand.
  pub meets_subcommand : (m : ArgMatches) → (is_simple_and_free line ≡ true → fault_of line words ≡ []) →
      HasMatchesOf line words m
      → has_subcommand m ≡ true
  meets_subcommand m passes matches =
      sym (is_some-map _ (out-ArgMatches m).subcommand) ∙
      (ap is_some (subcommand_is line command_line words is is_simple_line m matches) ∙
      has_met words (no_fault line command_line words is is_simple_line passes))

  -- If the words have no fault, they request the run of the subcommand with its options.
  pub asks_run : (m : ArgMatches) (name : Text) (rows : List Row) →
      (is_simple_and_free line ≡ true → fault_of line words ≡ [])
      → HasMatchesOf line words m → Some name ≡ subcommand_name_of m →
      Some rows ≡ option_map (λ f. f.1) (subcommand_rows_of m)
      → requested words ≡ run_in name rows
  unfolding requested
  asks_run m name rows passes matches named found =
      run_by _ _ (name, rows) (no_fault line command_line words is is_simple_line passes)
      (sym (subcommand_is line command_line words is is_simple_line m matches) ∙
      both_found (out-ArgMatches m).subcommand name rows named found)

abbrev with_service : Text → List Row → ConfigOptions → Service → Result Invocation Kinds
with_service name rows given service = Ok (run_of name (config_of given) service rows)

abbrev with_given : Text → List Row → ConfigOptions → Result Invocation Kinds
with_given name rows given = service_in given rows >>= with_service name rows given

at_given : (name : Text) (rows : List Row) (given : ConfigOptions) → options_in rows ≡ Ok given
    → gateway_in name rows ≡ with_given name rows given
at_given name rows given is = ap (λ (r : Result ConfigOptions Kinds). r >>= with_given name rows) is

-- If the options of a gateway are valid, the run is that of the subcommand.
pub run_is : (name : Text) (rows : List Row) (given : ConfigOptions) (service : Service) (config : Config)
    (run : Invocation) → options_in rows ≡ Ok given → service_in given rows ≡ Ok service → config ≡ config_of given
    → run ≡ run_of name config service rows → gateway_in name rows ≡ Ok run
run_is name rows given service config run read served configured is =
    at_given name rows given read ∙
    (ap (λ (r : Result Service Kinds). r >>= with_service name rows given) served ∙ rw (is, configured) refl)

-- If the options of the configuration are invalid, the run is refused.
pub refuses_options : (name : Text) (rows : List Row) → options_in rows ≡ Err (ValueValidation ∷ []) →
    gateway_in name rows ≡ Err (ValueValidation ∷ [])
refuses_options name rows refused = ap (λ (r : Result ConfigOptions Kinds). r >>= with_given name rows) refused

-- If the options of a gateway on sockets are invalid, the run is refused.
pub refuses_service : (name : Text) (rows : List Row) (given : ConfigOptions) → options_in rows ≡ Ok given →
    service_in given rows ≡ Err (ValueValidation ∷ []) → gateway_in name rows ≡ Err (ValueValidation ∷ [])
refuses_service name rows given read refused =
    at_given name rows given read ∙ ap (λ (r : Result Service Kinds). r >>= with_service name rows given) refused

-- The value that was read, or the fault.
abbrev some_value : {A E : Type 0} → Result A E → Result (Option A) E
some_value read = read >>= (λ value. Ok (Some value))

abbrev written_by : {A E : Type 0} → (Text → Result A E) → Option Text → Result (Option A) E
written_by read named = option_map_or (λ text. some_value (read text)) named (Ok None)

pub value_is : {A E : Type 0} (read : Text → Result A E) (name : Text) (rows : List Row) (text : Text) (value : A)
    → Some text ≡ first_of name rows → Ok value ≡ read text → Ok (Some value) ≡ named_by read name rows
value_is read name rows text value named is = ap some_value is ∙ ap (written_by read) named

pub value_fails : {A E : Type 0} (read : Text → Result A E) (name : Text) (rows : List Row) (text : Text) (fault : E)
    → Some text ≡ first_of name rows → Err fault ≡ read text → Err fault ≡ named_by read name rows
value_fails read name rows text fault named is = ap some_value is ∙ ap (written_by read) named

pub unwritten : {A E : Type 0} (read : Text → Result A E) (name : Text) (rows : List Row) → None ≡ first_of name rows
    → Ok None ≡ named_by read name rows
unwritten read name rows named = ap (written_by read) named

-- The check of `gateway` from the address `source`, if it is given. Without a gateway, the arguments are invalid.
abbrev check_of : Result (Option (List ℕ)) AddressFault → Option Peer → Result Invocation Kinds
check_of source gateway = valid source >>= (λ address. option_map_or
    (λ peer. Ok (Check peer (unwrap_or address (0 ∷ 0 ∷ 0 ∷ 0 ∷ [])))) gateway (Err (ValueValidation ∷ [])))

abbrev source_in : List Row → Result (Option (List ℕ)) AddressFault
source_in rows = named_by own_address (codes "source") rows

abbrev named_gateway : List Row → Option Peer
named_gateway rows = option_and_then peer_of (first_of (codes "gateway") rows)

pub check_is : (rows : List Row) (source : Option (List ℕ)) (gateway : Peer) (address : List ℕ) →
    Ok source ≡ source_in rows → Some gateway ≡ named_gateway rows → address ≡ unwrap_or source (0 ∷ 0 ∷ 0 ∷ 0 ∷ [])
    → check_in rows ≡ Ok (Check gateway address)
check_is rows source gateway address from is chosen =
    sym (λ i. check_of (from i) (is i)) ∙ sym (ap (λ (a : List ℕ). Ok (Check gateway a)) chosen)

pub refuses_gateway : (rows : List Row) (source : Option (List ℕ)) → Ok source ≡ source_in rows →
    None ≡ named_gateway rows → check_in rows ≡ Err (ValueValidation ∷ [])
refuses_gateway rows source from is = sym (λ i. check_of (from i) (is i))

pub refuses_source : (rows : List Row) (fault : AddressFault) → Err fault ≡ source_in rows →
    check_in rows ≡ Err (ValueValidation ∷ [])
refuses_source rows fault from =
    sym (ap (λ (source : Result (Option (List ℕ)) AddressFault). check_of source (named_gateway rows)) from)

-- If `X` is true, it is also true in case of an error.
pub at_error : {T E X : Type 0} (r : Result T E) → X → IfErr r (λ e. X)
at_error (Ok value) x = tt
at_error (Err e) x = x

-- If the run of the subcommand is refused with `ValueValidation`, the whole request is refused with this kind of error.
pub refuses : (requested : Result Invocation Kinds) (name : Text) (rows : List Row) (kind : ErrorKind) →
    requested ≡ run_in name rows → run_in name rows ≡ Err (ValueValidation ∷ []) → kind ≡ ValueValidation →
    IsRefused requested kind
refuses requested name rows kind asks refused is = rw (asks ∙ refused, is) (inr (inl refl))

-- If an error reports lack of memory, the request is refused with the error's kind.
pub memory_passed_on : {T : Type 0} (r : Result T Error) (requested : Result Invocation Kinds) →
    IsErrAnd r (λ e. kind_of e ≡ OutOfMemory)
    → IfErr r (λ e. IsRefused requested (kind_of e))
memory_passed_on (Ok value) requested why = tt
memory_passed_on (Err e) requested why = inl why

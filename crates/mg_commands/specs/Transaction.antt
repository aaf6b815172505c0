-- A transaction: a request's actions and their commands, in order (RFC 3525, section 8.2.2). After an error, nothing
-- more is executed, with two exceptions. An optional command that fails does not stop the transaction, and a command
-- that fails for one name is still tried for its other names.
use Rattle.std.specs.Prelude.{ℕ, Bool, ◌&&◌, true, false, not, List, [], ◌∷◌, ◌++◌, Option}
use Rattle.std.specs.Prelude.{None, Result, Ok, Err, if◌then◌else◌}
use Rattle.std.specs.List.{fold}
use Rattle.std.specs.Option.{option_map_or, option_or}
use Rattle.mg_scan.specs.Span.{text_of}
use Rattle.mg_words.specs.declared.command_word.CommandWord.{CommandWord}
use Rattle.mg_words.specs.declared.context_id.ContextId.{ContextId}
use Rattle.mg_words.specs.declared.context_id.ContextId.TheVariants as contexts
use Rattle.mg_words.specs.declared.error_number.ErrorNumber.{ErrorNumber}
use Rattle.mg_reply.specs.declared.item.Item.{Item}
use Rattle.mg_reply.specs.declared.item.Item.TheVariants as replies
use Rattle.mg_reply.specs.declared.outcome.Outcome.TheVariants.{Failed, Done}
use Rattle.mg_rooms.specs.declared.target.Target.{Target}
use Rattle.mg_rooms.specs.declared.target.Target.TheVariants as targets
use Rattle.mg_engine.specs.Gateway.{Gateway}
use Rattle.mg_text.specs.declared.command.Command.{Command}
use Rattle.mg_text.specs.declared.request.Action.{Action}
use Rattle.mg_text.specs.declared.request.Request.{Request}
use Rattle.mg_commands.specs.declared.command_parameters.CommandParameters.{CommandParameters}
use Rattle.mg_commands.specs.declared.name.Name.{Name}
use Rattle.mg_commands.specs.Name.{written_as, written_name}
use Rattle.mg_commands.specs.ContextProperties.{context_outcome, action_fault}
use Rattle.mg_commands.specs.Outcome.{CommandOutcome, Trial, outcome, trial_of}

-- The state of a transaction: the gateway, the action's context, the first termination that an Add of the action
-- created, and the reply's items so far. A flag says whether an error has stopped the transaction.
pub record TransactionState : Type 0 where
  pub gateway : Gateway
  pub target : Target
  pub made : Option ℕ
  pub items : List Item
  pub has_stopped : Bool

abbrev pub with_item : TransactionState → Item → TransactionState
with_item s item = record s { items = s.items ++ item ∷ [] }

abbrev pub with_error : TransactionState → Item → TransactionState
with_error s item = record (with_item s item) { has_stopped = true }

-- ## Commands

-- The state after a command for one name, which the reply spells as given.
abbrev pub after_outcome : CommandWord → List ℕ → TransactionState → CommandOutcome
    → TransactionState
after_outcome word name s (Ok p) = record s {
  gateway = p.0;
  target = p.1.target;
  made = option_or s.made p.1.made;
  items = s.items ++ replies.Command word p.1.term (Done p.1.parts) ∷ [];
}
after_outcome word name s (Err e) = with_error s (replies.Command word name (Failed e))

abbrev pub with_name : List ℕ → Command → CommandParameters → TransactionState → Name
    → TransactionState
with_name source c parameters s name =
    after_outcome c.word (written_as (text_of source c.term) name) s
    (outcome c.word s.gateway s.target name parameters)

-- A command that can be tried is tried for each of its names. A failure for one name does not stop the others.
abbrev pub with_trial : List ℕ → Command → TransactionState → Result Trial ErrorNumber
    → TransactionState
with_trial source c s (Ok trial) = fold (with_name source c trial.parameters) s trial.names
with_trial source c s (Err e) =
    after_outcome c.word (written_name (text_of source c.term)) s (Err e)

-- An optional command (`O-`) that fails does not stop the transaction.
abbrev pub unless_optional : Command → TransactionState → TransactionState
unless_optional c s = record s { has_stopped = s.has_stopped && not c.is_optional }

abbrev pub with_command : List ℕ → TransactionState → Command → TransactionState
with_command source s c =
    if s.has_stopped then s
    else unless_optional c (with_trial source c s (trial_of source s.gateway s.target c))

-- ## Actions

-- The context in which an action starts. An action on all contexts is never run.
abbrev pub target_of : ContextId → Target
target_of contexts.Null = targets.Null
target_of contexts.Choose = targets.New
target_of contexts.All = targets.Null
target_of (contexts.Number n) = targets.Number n

-- The context that the reply names.
abbrev pub id_of : Target → ContextId
id_of targets.Null = contexts.Null
id_of targets.New = contexts.Choose
id_of (targets.Number n) = contexts.Number n

-- The state after the properties of an action are applied and answered, or refused.
abbrev pub after_properties : TransactionState → Result (Gateway × List Item) ErrorNumber
    → TransactionState
after_properties s (Ok p) = record s { gateway = p.0; items = s.items ++ p.1 }
after_properties s (Err e) = with_error s (replies.Fault e)

abbrev pub with_commands : List ℕ → Action → TransactionState → TransactionState
with_commands source a s =
    fold (with_command source) (record s { target = target_of a.context; made = None }) a.commands

abbrev pub with_properties : List ℕ → Action → TransactionState → TransactionState
with_properties source a s =
    if s.has_stopped then s
    else after_properties s (context_outcome source s.made a.properties s.gateway s.target)

-- The state after the last item of an action, which names the context.
abbrev pub closed : TransactionState → TransactionState
closed s = with_item s (replies.Action (id_of s.target))

-- An action, unless it is rejected as a whole: its commands and then, unless the transaction has stopped, its
-- properties.
unfoldable pub with_action : List ℕ → TransactionState → Action → TransactionState
with_action source s a =
    if s.has_stopped then s
    else option_map_or (λ e. with_item (with_error s (replies.Fault e)) (replies.Action a.context))
    (action_fault a) (closed (with_properties source a (with_commands source a s)))

-- The gateway after a request, and the items of its reply.
abbrev pub replied : List ℕ → Request → Gateway → TransactionState
replied source request w =
    fold (with_action source)
    (record { gateway = w; target = targets.Null; made = None; items = []; has_stopped = false })
    request.actions

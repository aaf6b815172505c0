-- Properties of every transaction: refused commands change nothing, and consistency is preserved.
use Rattle.std.specs.Prelude.{◌≡◌, ℕ, Bool, true, false, not, ◌||◌, List, ◌∷◌, Some}
use Rattle.std.specs.Prelude.{None, Err}
use Rattle.std.specs.List.{fold, list_all, list_any}
use Rattle.mg_scan.specs.Span.{text_of}
use Rattle.mg_words.specs.declared.error_number.ErrorNumber.{ErrorNumber}
use Rattle.mg_reply.specs.declared.item.Item.{Item}
use Rattle.mg_reply.specs.declared.item.Item.TheVariants as replies
use Rattle.mg_reply.specs.declared.outcome.Outcome.TheVariants.{Failed, Done}
use Rattle.mg_rooms.specs.Consistent.{IsConsistent}
use Rattle.mg_engine.specs.Gateway.{Gateway}
use Rattle.mg_text.specs.declared.command.Command.{Command}
use Rattle.mg_text.specs.declared.request.Action.{Action}
use Rattle.mg_text.specs.declared.request.Request.{Request}
use Rattle.mg_commands.specs.declared.command_parameters.CommandParameters.{CommandParameters}
use Rattle.mg_commands.specs.declared.name.Name.{Name}
use Rattle.mg_commands.specs.Name.{written_as, written_name}
use Rattle.mg_commands.specs.ContextProperties.{action_fault, context_outcome, is_topology}
use Rattle.mg_commands.specs.Outcome.{outcome, trial_of}
use Rattle.mg_commands.specs.Transaction.{TransactionState, replied, with_item, with_error}
use Rattle.mg_commands.specs.Transaction.{with_name, with_command, unless_optional, with_commands}
use Rattle.mg_commands.specs.Transaction.{with_action, closed}

-- ## Refusals

-- If a command is refused for one of the terminations that it names, the reply gets an item with the error, and the
-- transaction counts as stopped. Nothing else changes.
abbrev pub RefusedNamesChangeNothing : Type 0
RefusedNamesChangeNothing =
    (source : List ℕ) (c : Command) (parameters : CommandParameters) (name : Name)
    (s : TransactionState) (e : ErrorNumber)
    → outcome c.word s.gateway s.target name parameters ≡ Err e
    → with_name source c parameters s name
    ≡ with_error s (replies.Command c.word (written_as (text_of source c.term) name) (Failed e))

-- If a command cannot be tried at all, the reply gets an item with the error, and the transaction stops unless the
-- command is optional. Nothing else changes.
abbrev pub RefusedCommandsChangeNothing : Type 0
RefusedCommandsChangeNothing =
    (source : List ℕ) (c : Command) (s : TransactionState) (e : ErrorNumber)
    → s.has_stopped ≡ false → trial_of source s.gateway s.target c ≡ Err e
    → with_command source s c ≡ unless_optional c
    (with_error s (replies.Command c.word (written_name (text_of source c.term)) (Failed e)))

-- If an action is rejected as a whole, before its commands, the reply gets the error and the end of the action, and the
-- transaction stops. Nothing else changes.
abbrev pub RefusedActionsChangeNothing : Type 0
RefusedActionsChangeNothing =
    (source : List ℕ) (a : Action) (s : TransactionState) (e : ErrorNumber)
    → s.has_stopped ≡ false → action_fault a ≡ Some e
    → with_action source s a
    ≡ with_item (with_error s (replies.Fault e)) (replies.Action a.context)

-- If an action's topology is refused after its commands, the effects of these commands remain. The reply gets the error
-- and the end of the action, and the transaction stops. Nothing else changes.
abbrev pub RefusedTopologiesChangeNothing : Type 0
RefusedTopologiesChangeNothing =
    (source : List ℕ) (a : Action) (s after : TransactionState) (e : ErrorNumber)
    → s.has_stopped ≡ false → action_fault a ≡ None
    → with_commands source a s ≡ after → after.has_stopped ≡ false
    → context_outcome source after.made a.properties after.gateway after.target ≡ Err e
    → with_action source s a ≡ closed (with_error after (replies.Fault e))

-- If a command is refused for one of its names, it is still tried for the other names, on the same gateway. The command
-- counts as failed.
abbrev pub OthersAreTried : Type 0
OthersAreTried =
    (source : List ℕ) (c : Command) (parameters : CommandParameters) (x : Name) (xs : List Name)
    (s : TransactionState) (e : ErrorNumber)
    → outcome c.word s.gateway s.target x parameters ≡ Err e
    → let item : Item = replies.Command c.word (written_as (text_of source c.term) x) (Failed e) in
    let tried : TransactionState = fold (with_name source c parameters) s (x ∷ xs) in
    (tried ≡ fold (with_name source c parameters) (with_error s item) xs)
    × (tried.has_stopped ≡ true)

-- Whether an item reports a successful command.
abbrev pub reports_success : Item → Bool
reports_success (replies.Command word term (Done parts)) = true
reports_success _ = false

-- Whether an action depends on its commands. It does if it has no topology, or if it has a non-optional command, whose
-- failure prevents the topology.
abbrev pub depends_on_commands : Action → Bool
depends_on_commands a =
    not (list_any is_topology a.properties) || list_any (λ c. not c.is_optional) a.commands

-- If all commands that a request tried were refused, and each action depends on its commands, the request leaves the
-- gateway unchanged.
abbrev pub RefusedRequestsChangeNothing : Type 0
RefusedRequestsChangeNothing =
    (source : List ℕ) (request : Request) (w : Gateway)
    → list_all depends_on_commands request.actions ≡ true
    → list_any reports_success (replied source request w).items ≡ false
    → (replied source request w).gateway ≡ w

-- ## Consistency

-- Every request preserves consistency.
abbrev pub RequestsAreConsistent : Type 0
RequestsAreConsistent =
    (source : List ℕ) (request : Request) (w : Gateway)
    → IsConsistent w.rooms → IsConsistent (replied source request w).gateway.rooms

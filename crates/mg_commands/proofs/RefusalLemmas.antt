-- Refused commands and rejected actions change nothing.
use Rattle.std.proofs.Common.{◌≡◌, ◌∙◌, ℕ, Bool, true, false, List, [], ◌∷◌, Option, Some, None, Result, Ok, Err, ap, refl, if◌then◌else◌}
use Rattle.std.specs.List.{fold}
use Rattle.std.specs.Option.{option_map_or}
use Rattle.mg_scan.specs.Span.{text_of}
use Rattle.mg_words.specs.declared.command_word.CommandWord.{CommandWord}
use Rattle.mg_words.specs.declared.error_number.ErrorNumber.{ErrorNumber}
use Rattle.mg_reply.specs.declared.item.Item.TheVariants as replies
use Rattle.mg_reply.specs.declared.outcome.Outcome.TheVariants.{Failed}
use Rattle.mg_engine.specs.Gateway.{Gateway}
use Rattle.mg_reply.specs.declared.item.Item.{Item}
use Rattle.mg_text.specs.declared.command.Command.{Command}
use Rattle.mg_text.specs.declared.request.Action.{Action}
use Rattle.mg_commands.specs.declared.command_parameters.CommandParameters.{CommandParameters}
use Rattle.mg_commands.specs.declared.name.Name.{Name}
use Rattle.mg_commands.specs.ContextProperties.{action_fault, context_outcome}
use Rattle.mg_commands.specs.Name.{written_as}
use Rattle.mg_commands.specs.Outcome.{CommandOutcome, Trial, outcome, trial_of}
use Rattle.mg_commands.specs.Theorems.{RefusedNamesChangeNothing, RefusedCommandsChangeNothing, RefusedActionsChangeNothing, RefusedTopologiesChangeNothing, OthersAreTried}
use Rattle.mg_commands.specs.Transaction.{TransactionState, after_outcome, after_properties, closed, unless_optional, with_action, with_commands, with_error, with_item, with_name, with_properties, with_trial}

pub names_refused : RefusedNamesChangeNothing
names_refused source c parameters name s e h =
    ap (λ (o : CommandOutcome). after_outcome c.word (written_as (text_of source c.term) name) s o) h

pub commands_refused : RefusedCommandsChangeNothing
commands_refused source c s e going h =
    ap (λ (b : Bool). if b then s
    else unless_optional c (with_trial source c s (trial_of source s.gateway s.target c))) going
    ∙ ap (λ (r : Result Trial ErrorNumber). unless_optional c (with_trial source c s r)) h

-- The state after an action, given the error that rejects the action as a whole, or `None`.
abbrev unless_refused : List ℕ → Action → TransactionState → Option ErrorNumber → TransactionState
unless_refused source a s o =
    option_map_or (λ e. with_item (with_error s (replies.Fault e)) (replies.Action a.context)) o
    (closed (with_properties source a (with_commands source a s)))

tried : (source : List ℕ) (a : Action) (s : TransactionState) (o : Option ErrorNumber) → s.has_stopped ≡ false →
    action_fault a ≡ o → with_action source s a ≡ unless_refused source a s o
unfolding with_action
tried source a s o going fault = ap (λ (b : Bool). if b then s else unless_refused source a s (action_fault a)) going
    ∙ ap (unless_refused source a s) fault

pub actions_refused : RefusedActionsChangeNothing
actions_refused source a s e going h = tried source a s (Some e) going h

pub topologies_refused : RefusedTopologiesChangeNothing
topologies_refused source a s run e going none ran still h =
    tried source a s None going none
    ∙ ap (λ (t : TransactionState). closed (with_properties source a t)) ran
    ∙ ap (λ (b : Bool). closed (if b then run
    else after_properties run (context_outcome source run.made a.properties run.gateway run.target))) still
    ∙ ap (λ (r : Result (Gateway × List Item) ErrorNumber). closed (after_properties run r)) h

after_failed : (word : CommandWord) (name : List ℕ) (s : TransactionState) (r : CommandOutcome) →
    s.has_stopped ≡ true → (after_outcome word name s r).has_stopped ≡ true
after_failed word name s (Ok p) h = h
after_failed word name s (Err e) h = refl

names_failed : (source : List ℕ) (c : Command) (parameters : CommandParameters) (xs : List Name) (s : TransactionState) →
    s.has_stopped ≡ true → (fold (with_name source c parameters) s xs).has_stopped ≡ true
names_failed source c parameters [] s h = h
names_failed source c parameters (x ∷ xs) s h =
    names_failed source c parameters xs (with_name source c parameters s x)
    (after_failed c.word (written_as (text_of source c.term) x) s (outcome c.word s.gateway s.target x parameters) h)

pub others_tried : OthersAreTried
others_tried source c parameters x xs s e h =
    let refused = ap (λ (t : TransactionState). fold (with_name source c parameters) t xs)
    (names_refused source c parameters x s e h) in (
      refused,
      ap (λ (t : TransactionState). t.has_stopped) refused ∙ names_failed source c parameters xs
          (with_error s (replies.Command c.word (written_as (text_of source c.term) x) (Failed e))) refl,
    )

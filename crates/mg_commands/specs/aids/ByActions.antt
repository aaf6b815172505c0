-- A transaction as nested calls, as the program runs it. Each step returns whether it succeeded. `replied` of
-- `Transaction` results in the same gateway and items.
use Rattle.std.specs.Prelude.{ℕ, Bool, ◌&&◌, ◌||◌, true, false, List, [], ◌∷◌, ◌++◌, Option}
use Rattle.std.specs.Prelude.{None, Result, Ok, Err}
use Rattle.std.specs.Option.{option_map_or}
use Rattle.mg_scan.specs.Span.{text_of}
use Rattle.mg_words.specs.declared.command_word.CommandWord.{CommandWord}
use Rattle.mg_words.specs.declared.error_number.ErrorNumber.{ErrorNumber}
use Rattle.mg_reply.specs.declared.item.Item.{Item}
use Rattle.mg_reply.specs.declared.item.Item.TheVariants as replies
use Rattle.mg_reply.specs.declared.outcome.Outcome.TheVariants.{Failed, Done}
use Rattle.mg_rooms.specs.declared.target.Target.{Target}
use Rattle.mg_engine.specs.Gateway.{Gateway}
use Rattle.mg_text.specs.declared.command.Command.{Command}
use Rattle.mg_text.specs.declared.context_property.ContextProperty.{ContextProperty}
use Rattle.mg_text.specs.declared.request.Action.{Action}
use Rattle.mg_text.specs.declared.request.Request.{Request}
use Rattle.mg_commands.specs.declared.command_parameters.CommandParameters.{CommandParameters}
use Rattle.mg_commands.specs.declared.name.Name.{Name}
use Rattle.mg_commands.specs.Name.{written_as, written_name}
use Rattle.std.specs.Option.{option_or}
use Rattle.mg_commands.specs.ContextProperties.{context_outcome, action_fault}
use Rattle.mg_commands.specs.Outcome.{CommandOutcome, Trial, outcome, trial_of}
use Rattle.mg_commands.specs.Transaction.{target_of, id_of}

-- ## Commands

-- The state of an action: the gateway, the action's context, the first termination that an Add of the action created,
-- and the items of the reply so far.
pub record ActionState : Type 0 where
  pub gateway : Gateway
  pub target : Target
  pub made : Option ℕ
  pub items : List Item

-- The action after a command for one name, which the reply spells as given, and whether the command succeeded.
abbrev pub after_outcome : CommandWord → List ℕ → ActionState → CommandOutcome → ActionState × Bool
after_outcome word name run (Ok p) = (
  record {
    gateway = p.0;
    target = p.1.target;
    made = option_or run.made p.1.made;
    items = run.items ++ replies.Command word p.1.term (Done p.1.parts) ∷ [];
  },
  true,
)
after_outcome word name run (Err e) =
    (record run { items = run.items ++ replies.Command word name (Failed e) ∷ [] }, false)

abbrev pub with_name : List ℕ → Command → CommandParameters → Name → ActionState
    → ActionState × Bool
with_name source c parameters name run =
    after_outcome c.word (written_as (text_of source c.term) name) run
    (outcome c.word run.gateway run.target name parameters)

-- The rest is tried whether or not the first succeeded. The result is a success if both succeeded.
abbrev pub and_then : (ActionState → ActionState × Bool) → ActionState × Bool → ActionState × Bool
and_then rest (run, is_done) = ((rest run).0, is_done && (rest run).1)

-- The action after a command for each name, and whether the command succeeded for all names. A failure for one name
-- does not stop the others.
unfoldable pub with_names : List ℕ → Command → CommandParameters → List Name → ActionState
    → ActionState × Bool
with_names source c parameters [] run = (run, true)
with_names source c parameters (x ∷ xs) run =
    and_then (with_names source c parameters xs) (with_name source c parameters x run)

-- The action after a command. If the command cannot be tried at all, the reply has one error.
abbrev pub with_trial : List ℕ → Command → ActionState → Result Trial ErrorNumber
    → ActionState × Bool
with_trial source c run (Ok trial) = with_names source c trial.parameters trial.names run
with_trial source c run (Err e) =
    after_outcome c.word (written_name (text_of source c.term)) run (Err e)

abbrev pub with_command : List ℕ → Command → ActionState → ActionState × Bool
with_command source c run = with_trial source c run (trial_of source run.gateway run.target c)

-- An optional command (`O-`) that fails does not end the action.
abbrev pub unless_optional : Command → ActionState × Bool → ActionState × Bool
unless_optional c (run, is_done) = (run, c.is_optional || is_done)

-- The rest is run unless a command that is not optional has failed.
abbrev pub continue_with : (ActionState → ActionState × Bool) → ActionState × Bool
    → ActionState × Bool
continue_with rest (run, true) = rest run
continue_with rest (run, false) = (run, false)

-- The action after its commands, which stop at the first non-optional command that fails. The flag says whether all
-- non-optional commands succeeded.
unfoldable pub with_commands : List ℕ → List Command → ActionState → ActionState × Bool
with_commands source [] run = (run, true)
with_commands source (c ∷ cs) run =
    continue_with (with_commands source cs) (unless_optional c (with_command source c run))

-- ## Actions

-- The state between actions: the gateway, and the items of the reply so far.
pub record ActionsState : Type 0 where
  pub gateway : Gateway
  pub items : List Item

abbrev pub action_start : Action → ActionsState → ActionState
action_start a s =
    record { gateway = s.gateway; target = target_of a.context; made = None; items = s.items }

-- The end of an action: the items that report about its context, and then the item that names the context.
abbrev pub end_of_action : ActionState → Gateway → List Item → ActionsState
end_of_action run w items =
    record { gateway = w; items = run.items ++ items ++ replies.Action (id_of run.target) ∷ [] }

-- The action after its properties, and whether they were applied.
abbrev pub after_properties : ActionState → Result (Gateway × List Item) ErrorNumber
    → ActionsState × Bool
after_properties run (Ok p) = (end_of_action run p.0 p.1, true)
after_properties run (Err e) = (end_of_action run run.gateway (replies.Fault e ∷ []), false)

-- The action after its commands, and whether it was completed. The properties follow the commands, unless a command
-- that is not optional failed.
abbrev pub after_commands : List ℕ → List ContextProperty → ActionState × Bool
    → ActionsState × Bool
after_commands source ps (run, false) = (end_of_action run run.gateway [], false)
after_commands source ps (run, true) =
    after_properties run (context_outcome source run.made ps run.gateway run.target)

abbrev pub refusal : Action → ActionsState → ErrorNumber → ActionsState × Bool
refusal a s e =
    (record s { items = s.items ++ replies.Fault e ∷ replies.Action a.context ∷ [] }, false)

-- The action is run unless it is rejected as a whole.
unfoldable pub with_action : List ℕ → Action → ActionsState → ActionsState × Bool
with_action source a s =
    option_map_or (refusal a s) (action_fault a)
    (after_commands source a.properties (with_commands source a.commands (action_start a s)))

-- The rest is run unless an action was not completed.
abbrev pub continue_after_action : (ActionsState → ActionsState) → ActionsState × Bool
    → ActionsState
continue_after_action rest (s, true) = rest s
continue_after_action rest (s, false) = s

unfoldable pub with_actions : List ℕ → List Action → ActionsState → ActionsState
with_actions source [] s = s
with_actions source (a ∷ actions) s =
    continue_after_action (with_actions source actions) (with_action source a s)

-- A request, run action by action.
abbrev pub by_actions : List ℕ → Request → Gateway → ActionsState
by_actions source request w =
    with_actions source request.actions (record { gateway = w; items = [] })

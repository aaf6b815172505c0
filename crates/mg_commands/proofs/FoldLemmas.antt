-- The fold over the steps of a transaction yields the gateway and items of the program's nested calls.
use Rattle.std.proofs.Common.{◌≡◌, ℕ, Bool, true, false, not, ◌&&◌, ◌||◌, List, [], ◌∷◌, ◌++◌, Option, Some, None, Result, Ok, Err, refl, sym, ap, ◌∙◌, append_assoc}
use Rattle.std.specs.List.{fold}
use Rattle.std.specs.Option.{option_map_or}
use Rattle.std.proofs.lemmas.List.{append-nil}
use Rattle.mg_scan.specs.Span.{text_of}
use Rattle.mg_words.specs.declared.command_word.CommandWord.{CommandWord}
use Rattle.mg_words.specs.declared.error_number.ErrorNumber.{ErrorNumber}
use Rattle.mg_reply.specs.declared.item.Item.{Item}
use Rattle.mg_reply.specs.declared.item.Item.TheVariants as replies
use Rattle.mg_rooms.specs.declared.target.Target.{Target}
use Rattle.mg_rooms.specs.declared.target.Target.TheVariants as targets
use Rattle.mg_engine.specs.Gateway.{Gateway}
use Rattle.mg_text.specs.declared.command.Command.{Command}
use Rattle.mg_text.specs.declared.request.Action.{Action}
use Rattle.mg_text.specs.declared.request.Request.{Request}
use Rattle.mg_commands.specs.declared.command_parameters.CommandParameters.{CommandParameters}
use Rattle.mg_commands.specs.declared.name.Name.{Name}
use Rattle.mg_commands.specs.Name.{written_as}
use Rattle.mg_commands.specs.ContextProperties.{action_fault, context_outcome}
use Rattle.mg_commands.specs.Outcome.{CommandOutcome, Trial, outcome, trial_of}
use Rattle.mg_commands.specs.Transaction as steps
use Rattle.mg_commands.specs.Transaction.{TransactionState, id_of, replied, with_action as action_step}
use Rattle.mg_commands.specs.aids.ByActions.{ActionState, ActionsState, action_start, after_commands, after_outcome, after_properties, by_actions, continue_after_action, continue_with, unless_optional, with_action, with_actions, with_command, with_commands, with_name, with_names, with_trial}
use Rattle.mg_commands.specs.aids.Steps.{action_unless}

-- ## Commands

-- The transaction state of an action, given whether each command so far succeeded or was optional.
abbrev state_of : ActionState → Bool → TransactionState
state_of run is_done = record {
  gateway = run.gateway;
  target = run.target;
  made = run.made;
  items = run.items;
  has_stopped = not is_done;
}

after_agrees : (word : CommandWord) (name : List ℕ) (run : ActionState) (b : Bool) (r : CommandOutcome) →
    steps.after_outcome word name (state_of run b) r ≡
    state_of (after_outcome word name run r).0 (b && (after_outcome word name run r).1)
after_agrees word name run true (Ok p) = refl
after_agrees word name run false (Ok p) = refl
after_agrees word name run true (Err e) = refl
after_agrees word name run false (Err e) = refl

name_agrees : (source : List ℕ) (c : Command) (parameters : CommandParameters) (x : Name) (run : ActionState)
    (b : Bool) → steps.with_name source c parameters (state_of run b) x ≡
    state_of (with_name source c parameters x run).0 (b && (with_name source c parameters x run).1)
name_agrees source c parameters x run b = after_agrees c.word (written_as (text_of source c.term) x) run b
    (outcome c.word run.gateway run.target x parameters)

and_assoc : (a b c : Bool) → ((a && b) && c) ≡ (a && (b && c))
and_assoc true b c = refl
and_assoc false b c = refl

names_agree : (source : List ℕ) (c : Command) (parameters : CommandParameters) (xs : List Name) (run : ActionState)
    (b : Bool) → fold (steps.with_name source c parameters) (state_of run b) xs ≡
    state_of (with_names source c parameters xs run).0 (b && (with_names source c parameters xs run).1)
unfolding with_names
names_agree source c parameters [] run true = refl
names_agree source c parameters [] run false = refl
names_agree source c parameters (x ∷ xs) run b =
    let one = with_name source c parameters x run in
    let rest = with_names source c parameters xs one.0 in
    ap (λ (s : TransactionState). fold (steps.with_name source c parameters) s xs)
    (name_agrees source c parameters x run b)
    ∙ names_agree source c parameters xs one.0 (b && one.1)
    ∙ ap (state_of rest.0) (and_assoc b one.1 rest.1)

trial_agrees : (source : List ℕ) (c : Command) (run : ActionState) (r : Result Trial ErrorNumber) →
    steps.with_trial source c (state_of run true) r ≡
    state_of (with_trial source c run r).0 (with_trial source c run r).1
trial_agrees source c run (Ok trial) = names_agree source c trial.parameters trial.names run true
trial_agrees source c run (Err e) = refl

neither : (a o : Bool) → (not a && not o) ≡ not (o || a)
neither true true = refl
neither true false = refl
neither false true = refl
neither false false = refl

optional_agrees : (c : Command) (run : ActionState) (b : Bool) →
    steps.unless_optional c (state_of run b) ≡ state_of run (c.is_optional || b)
optional_agrees c run b = ap (λ (stopped : Bool). record (state_of run b) { has_stopped = stopped })
    (neither b c.is_optional)

command_agrees : (source : List ℕ) (c : Command) (run : ActionState) →
    steps.with_command source (state_of run true) c ≡
    state_of (unless_optional c (with_command source c run)).0 (unless_optional c (with_command source c run)).1
command_agrees source c run =
    let tried = with_command source c run in
    ap (steps.unless_optional c) (trial_agrees source c run (trial_of source run.gateway run.target c))
    ∙ optional_agrees c tried.0 tried.1

commands_stay : (source : List ℕ) (cs : List Command) (run : ActionState) →
    fold (steps.with_command source) (state_of run false) cs ≡ state_of run false
commands_stay source [] run = refl
commands_stay source (c ∷ cs) run = commands_stay source cs run

go_on : (source : List ℕ) (cs : List Command) (x : ActionState × Bool) →
    ((run : ActionState) → fold (steps.with_command source) (state_of run true) cs ≡
    state_of (with_commands source cs run).0 (with_commands source cs run).1)
    → fold (steps.with_command source) (state_of x.0 x.1) cs ≡
    state_of (continue_with (with_commands source cs) x).0 (continue_with (with_commands source cs) x).1
go_on source cs (run, true) h = h run
go_on source cs (run, false) h = commands_stay source cs run

commands_agree : (source : List ℕ) (cs : List Command) (run : ActionState) →
    fold (steps.with_command source) (state_of run true) cs ≡
    state_of (with_commands source cs run).0 (with_commands source cs run).1
unfolding with_commands
commands_agree source [] run = refl
commands_agree source (c ∷ cs) run =
    ap (λ (s : TransactionState). fold (steps.with_command source) s cs) (command_agrees source c run)
    ∙ go_on source cs (unless_optional c (with_command source c run)) (commands_agree source cs)

-- ## Actions

-- The gateway and the items of a transaction state.
abbrev pub shown : TransactionState → ActionsState
shown s = record { gateway = s.gateway; items = s.items }

abbrev result_of : TransactionState → ActionsState × Bool
result_of s = (shown s, not s.has_stopped)

told : (run : ActionState) (r : Result (Gateway × List Item) ErrorNumber) →
    result_of (steps.closed (steps.after_properties (state_of run true) r)) ≡ after_properties run r
told run (Ok p) = refl
told run (Err e) = refl

ended : (source : List ℕ) (a : Action) (x : ActionState × Bool) →
    result_of (steps.closed (steps.with_properties source a (state_of x.0 x.1))) ≡
    after_commands source a.properties x
ended source a (run, true) = told run (context_outcome source run.made a.properties run.gateway run.target)
ended source a (run, false) = ap (λ (xs : List Item). result_of (record (state_of run false) {
  items = xs ++ replies.Action (id_of run.target) ∷ [];
})) (sym (append-nil run.items))

abbrev start : Gateway → Target → Option ℕ → List Item → Bool → TransactionState
start w target made items stopped =
    record { gateway = w; target = target; made = made; items = items; has_stopped = stopped }

unless_agrees : (o : Option ErrorNumber) (source : List ℕ) (a : Action) (w : Gateway) (target : Target)
    (made : Option ℕ) (items : List Item) → let s : TransactionState = start w target made items false in
    result_of (option_map_or (λ (e : ErrorNumber). steps.with_item (steps.with_error s (replies.Fault e))
    (replies.Action a.context)) o (steps.closed (steps.with_properties source a (steps.with_commands source a s)))) ≡
    action_unless o source a (shown s)
unless_agrees (Some e) source a w target made items =
    ap (λ (xs : List Item). result_of (start w target made xs true))
    (append_assoc items (replies.Fault e ∷ []) (replies.Action a.context ∷ []))
unless_agrees None source a w target made items =
    let run = action_start a (record { gateway = w; items = items }) in
    ap (λ (t : TransactionState). result_of (steps.closed (steps.with_properties source a t)))
    (commands_agree source a.commands run)
    ∙ ended source a (with_commands source a.commands run)

action_agrees : (source : List ℕ) (a : Action) (w : Gateway) (target : Target) (made : Option ℕ) (items : List Item) →
    result_of (action_step source (start w target made items false) a) ≡
    with_action source a (record { gateway = w; items = items })
unfolding action_step with_action
action_agrees source a w target made items = unless_agrees (action_fault a) source a w target made items

actions_stay : (source : List ℕ) (xs : List Action) (w : Gateway) (target : Target) (made : Option ℕ)
    (items : List Item) →
    shown (fold (action_step source) (start w target made items true) xs) ≡ record { gateway = w; items = items }
unfolding action_step
actions_stay source [] w target made items = refl
actions_stay source (a ∷ xs) w target made items = actions_stay source xs w target made items

actions_agree : (source : List ℕ) (xs : List Action) (w : Gateway) (target : Target) (made : Option ℕ)
    (items : List Item) (stopped : Bool) → shown (fold (action_step source) (start w target made items stopped) xs) ≡
    continue_after_action (with_actions source xs) (record { gateway = w; items = items }, not stopped)
unfolding with_actions
actions_agree source xs w target made items true = actions_stay source xs w target made items
actions_agree source [] w target made items false = refl
actions_agree source (a ∷ xs) w target made items false =
    let next = action_step source (start w target made items false) a in
    actions_agree source xs next.gateway next.target next.made next.items next.has_stopped
    ∙ ap (continue_after_action (with_actions source xs)) (action_agrees source a w target made items)

pub same_reply : (source : List ℕ) (request : Request) (w : Gateway) →
    by_actions source request w ≡ shown (replied source request w)
same_reply source request w = sym (actions_agree source request.actions w targets.Null None [] false)

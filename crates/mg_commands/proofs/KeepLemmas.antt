-- A request preserves each property that all edits of a gateway preserve.
use Rattle.std.proofs.Common.{◌≡◌, ℕ, Bool, true, false, List, [], ◌∷◌, Option, Some, None, Result, Ok, Err, refl, subst}
use Rattle.mg_words.specs.ResultSteps.{◌>>=◌}
use Rattle.mg_words.specs.declared.command_word.CommandWord.{CommandWord}
use Rattle.mg_words.specs.declared.command_word.CommandWord.TheVariants as words
use Rattle.mg_words.specs.declared.error_number.ErrorNumber.{ErrorNumber}
use Rattle.mg_reply.specs.declared.item.Item.{Item}
use Rattle.mg_rooms.specs.declared.record.Record.{Record}
use Rattle.mg_rooms.specs.declared.settings.Settings.{Settings}
use Rattle.mg_rooms.specs.declared.target.Target.{Target}
use Rattle.mg_engine.specs.declared.topology_triple.TopologyTriple.{TopologyTriple}
use Rattle.mg_engine.specs.Gateway.{Gateway}
use Rattle.mg_engine.specs.Outcome.{add, modify, move_to, subtract, apply_triples}
use Rattle.mg_scan.specs.Span.{text_of}
use Rattle.mg_text.specs.declared.command.Command.{Command}
use Rattle.mg_text.specs.declared.context_property.ContextProperty.{ContextProperty}
use Rattle.mg_text.specs.declared.request.Action.{Action}
use Rattle.mg_text.specs.declared.request.Request.{Request}
use Rattle.mg_commands.specs.declared.command_parameters.CommandParameters.{CommandParameters}
use Rattle.mg_commands.specs.declared.name.Name.{Name}
use Rattle.mg_commands.specs.declared.served.Served.{Served}
use Rattle.mg_commands.specs.Name.{written_as}
use Rattle.mg_commands.specs.ContextProperties.{action_fault, context_outcome, triples_of}
use Rattle.mg_commands.specs.Outcome.{CommandOutcome, Trial, check_new_name, number_in, outcome, trial_of, audit_outcome}
use Rattle.mg_commands.specs.aids.Steps.{in_same_world}
use Rattle.mg_commands.specs.Transaction.{replied}
use Rattle.mg_commands.specs.aids.ByActions.{ActionState, ActionsState, action_start, after_commands, after_outcome, after_properties, continue_with, continue_after_action, unless_optional, with_action, with_actions, with_command, with_commands, with_name, with_names, with_trial}
use Rattle.mg_commands.specs.aids.Steps.{action_unless}
use Rattle.mg_commands.proofs.FoldLemmas.{same_reply}

-- If the operation succeeds, the new gateway has the property.
data Left {A : Type 0} (P : A → Type 0) {B E : Type 0} : Result (A × B) E → Type 0 where
  done : (p : A × B) → P p.0 → Left P (Ok p)
  refused : (e : E) → Left P (Err e)

left_when : {A B E : Type 0} (P : A → Type 0) (r : Result (A × B) E) →
    ((next : A) (x : B) → r ≡ Ok (next, x) → P next) → Left P r
left_when P (Ok p) h = done p (h p.0 p.1 refl)
left_when P (Err e) h = refused e

by_step : {A B C E : Type 0} (P : A → Type 0) (r : Result C E) (f : C → Result (A × B) E) → ((x : C) → Left P (f x)) →
    Left P (r >>= f)
by_step P (Ok x) f h = h x
by_step P (Err e) f h = refused e

by_left : {A B C E : Type 0} (P : A → Type 0) (r : Result (A × B) E) (f : A × B → Result (A × C) E) → Left P r →
    ((p : A × B) → P p.0 → Left P (f p)) → Left P (r >>= f)
by_left P (Ok p) f (done _ k) h = h p k
by_left P (Err e) f (refused _) h = refused e

-- A property that each edit of a gateway preserves.
module _ (P : Gateway → Type 0)
    (by_add : (w next : Gateway) (target : Target) (settings : Settings) (r : Record) → P w →
    add w target settings ≡ Ok (next, r) → P next)
    (by_modify : (w next : Gateway) (target : Target) (n : ℕ) (settings : Settings) (r : Record) → P w →
    modify w target n settings ≡ Ok (next, r) → P next)
    (by_move : (w next : Gateway) (target : Target) (n : ℕ) (settings : Settings) (r : Record) → P w →
    move_to w target n settings ≡ Ok (next, r) → P next)
    (by_subtract : (w next : Gateway) (target : Target) (n : ℕ) (r : Record) → P w →
    subtract w target n ≡ Ok (next, r) → P next)
    (by_triples : (w next : Gateway) (target : Target) (xs : List TopologyTriple) (c : ℕ) → P w →
    apply_triples w target xs ≡ Ok (next, c) → P next)
  where
    audit_keeps : (w : Gateway) (r : Result Served ErrorNumber) → P w → Left P (in_same_world w r)
    audit_keeps w (Ok s) h = done (w, s) h
    audit_keeps w (Err e) h = refused e

    outcome_keeps : (word : CommandWord) (w : Gateway) (target : Target) (name : Name)
        (parameters : CommandParameters) → P w → Left P (outcome word w target name parameters)
    unfolding outcome
    outcome_keeps words.Add w target name parameters h =
        by_step P (check_new_name w name) _ (λ u. by_left P (add w target parameters.settings) _
        (left_when P (add w target parameters.settings) (λ next r. by_add w next target parameters.settings r h))
        (λ p k. done _ k))
    outcome_keeps words.Modify w target name parameters h =
        by_step P (number_in name) _ (λ n. by_left P (modify w target n parameters.settings) _
        (left_when P (modify w target n parameters.settings)
        (λ next r. by_modify w next target n parameters.settings r h)) (λ p k. done _ k))
    outcome_keeps words.Move w target name parameters h =
        by_step P (number_in name) _ (λ n. by_left P (move_to w target n parameters.settings) _
        (left_when P (move_to w target n parameters.settings)
        (λ next r. by_move w next target n parameters.settings r h)) (λ p k. done _ k))
    outcome_keeps words.Subtract w target name parameters h =
        by_step P (number_in name) _ (λ n. by_left P (subtract w target n) _
        (left_when P (subtract w target n) (λ next r. by_subtract w next target n r h)) (λ p k. done _ k))
    outcome_keeps words.AuditValue w target name parameters h = audit_keeps w (audit_outcome w target name parameters) h
    outcome_keeps words.AuditCapability w target name parameters h = refused _
    outcome_keeps words.Notify w target name parameters h = refused _
    outcome_keeps words.ServiceChange w target name parameters h = refused _

    after_keeps : (word : CommandWord) (name : List ℕ) (run : ActionState) (r : CommandOutcome) → P run.gateway →
        Left P r → P (after_outcome word name run r).0.gateway
    after_keeps word name run (Ok p) h (done _ k) = k
    after_keeps word name run (Err e) h (refused _) = h

    name_keeps : (source : List ℕ) (c : Command) (parameters : CommandParameters) (name : Name) (run : ActionState) →
        P run.gateway → P (with_name source c parameters name run).0.gateway
    name_keeps source c parameters name run h =
        after_keeps c.word (written_as (text_of source c.term) name) run
        (outcome c.word run.gateway run.target name parameters) h
        (outcome_keeps c.word run.gateway run.target name parameters h)

    names_keep : (source : List ℕ) (c : Command) (parameters : CommandParameters) (xs : List Name) (run : ActionState)
        → P run.gateway → P (with_names source c parameters xs run).0.gateway
    unfolding with_names
    names_keep source c parameters [] run h = h
    names_keep source c parameters (x ∷ xs) run h =
        names_keep source c parameters xs (with_name source c parameters x run).0
        (name_keeps source c parameters x run h)

    trial_keeps : (source : List ℕ) (c : Command) (run : ActionState) (r : Result Trial ErrorNumber) → P run.gateway →
        P (with_trial source c run r).0.gateway
    trial_keeps source c run (Ok trial) h = names_keep source c trial.parameters trial.names run h
    trial_keeps source c run (Err e) h = h

    go_on_keeps : (rest : ActionState → ActionState × Bool) (x : ActionState × Bool) → P x.0.gateway →
        ((run : ActionState) → P run.gateway → P (rest run).0.gateway) → P (continue_with rest x).0.gateway
    go_on_keeps rest (run, true) h k = k run h
    go_on_keeps rest (run, false) h k = h

    commands_keep : (source : List ℕ) (cs : List Command) (run : ActionState) → P run.gateway →
        P (with_commands source cs run).0.gateway
    unfolding with_commands
    commands_keep source [] run h = h
    commands_keep source (c ∷ cs) run h =
        go_on_keeps (with_commands source cs) (unless_optional c (with_command source c run))
        (trial_keeps source c run (trial_of source run.gateway run.target c) h) (commands_keep source cs)

    properties_keep : (source : List ℕ) (made : Option ℕ) (ps : List ContextProperty) (w : Gateway) (target : Target)
        → P w → Left P (context_outcome source made ps w target)
    properties_keep source made [] w target h = done (w, []) h
    properties_keep source made (x ∷ ps) w target h =
        let xs = triples_of source made (x ∷ ps) in
        by_left P (apply_triples w target xs) _ (left_when P (apply_triples w target xs)
        (λ next c. by_triples w next target xs c h)) (λ p k. done _ k)

    told_keeps : (run : ActionState) (r : Result (Gateway × List Item) ErrorNumber) → P run.gateway → Left P r →
        P (after_properties run r).0.gateway
    told_keeps run (Ok p) h (done _ k) = k
    told_keeps run (Err e) h (refused _) = h

    ended_keeps : (source : List ℕ) (ps : List ContextProperty) (x : ActionState × Bool) → P x.0.gateway →
        P (after_commands source ps x).0.gateway
    ended_keeps source ps (run, true) h = told_keeps run (context_outcome source run.made ps run.gateway run.target) h
        (properties_keep source run.made ps run.gateway run.target h)
    ended_keeps source ps (run, false) h = h

    unless_keeps : (o : Option ErrorNumber) (source : List ℕ) (a : Action) (s : ActionsState) → P s.gateway →
        P (action_unless o source a s).0.gateway
    unless_keeps (Some e) source a s h = h
    unless_keeps None source a s h = ended_keeps source a.properties
        (with_commands source a.commands (action_start a s)) (commands_keep source a.commands (action_start a s) h)

    action_keeps : (source : List ℕ) (a : Action) (s : ActionsState) → P s.gateway →
        P (with_action source a s).0.gateway
    unfolding with_action
    action_keeps source a s h = unless_keeps (action_fault a) source a s h

    rest_keeps : (rest : ActionsState → ActionsState) (x : ActionsState × Bool) → P x.0.gateway →
        ((s : ActionsState) → P s.gateway → P (rest s).gateway) → P (continue_after_action rest x).gateway
    rest_keeps rest (s, true) h k = k s h
    rest_keeps rest (s, false) h k = h

    actions_keep : (source : List ℕ) (xs : List Action) (s : ActionsState) → P s.gateway →
        P (with_actions source xs s).gateway
    unfolding with_actions
    actions_keep source [] s h = h
    actions_keep source (a ∷ xs) s h = rest_keeps (with_actions source xs) (with_action source a s)
        (action_keeps source a s h) (actions_keep source xs)

    pub request_keeps : (source : List ℕ) (request : Request) (w : Gateway) → P w → P (replied source request w).gateway
    request_keeps source request w h = subst (λ (s : ActionsState). P s.gateway) (same_reply source request w)
        (actions_keep source request.actions (record { gateway = w; items = [] }) h)

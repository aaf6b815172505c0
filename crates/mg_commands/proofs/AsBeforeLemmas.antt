-- A request whose commands are all refused.
use Rattle.std.proofs.lemmas.Bool.{and_parts}
use Rattle.std.proofs.Common.{◌≡◌, ℕ, Bool, ◌&&◌, ◌||◌, not, true, false, List, [], ◌∷◌, ◌++◌, map, Option, Some, None, Result, Ok, Err, refl, sym, ap, subst, ◌∙◌, if◌then◌else◌}
use Rattle.std.specs.List.{list_all, list_any}
use Rattle.std.specs.Option.{unwrap_or}
use Rattle.std.proofs.lemmas.List.Folds.{list_any-append}
use Rattle.mg_words.specs.ResultSteps.{◌>>=◌}
use Rattle.mg_words.specs.declared.command_word.CommandWord.{CommandWord}
use Rattle.mg_words.specs.declared.error_number.ErrorNumber.{ErrorNumber}
use Rattle.mg_reply.specs.declared.item.Item.{Item}
use Rattle.mg_reply.specs.declared.item.Item.TheVariants as replies
use Rattle.mg_reply.specs.declared.outcome.Outcome.TheVariants.{Failed, Done}
use Rattle.mg_rooms.specs.declared.target.Target.{Target}
use Rattle.mg_engine.specs.Gateway.{Gateway}
use Rattle.mg_engine.specs.Outcome.{apply_triples, existing_context}
use Rattle.mg_scan.specs.Span.{text_of}
use Rattle.mg_text.specs.declared.command.Command.{Command}
use Rattle.mg_text.specs.declared.context_property.ContextProperty.{ContextProperty}
use Rattle.mg_text.specs.declared.context_property.ContextProperty.TheVariants as properties
use Rattle.mg_text.specs.declared.context_property.NamedTriple.{NamedTriple}
use Rattle.mg_text.specs.declared.request.Action.{Action}
use Rattle.mg_commands.specs.declared.command_parameters.CommandParameters.{CommandParameters}
use Rattle.mg_commands.specs.declared.name.Name.{Name}
use Rattle.mg_commands.specs.declared.name.Name.TheVariants as names
use Rattle.mg_commands.specs.ContextProperties.{action_fault, audit_items, context_outcome, is_topology}
use Rattle.mg_commands.specs.ContextProperties.{topology_triple_of, triples_in, triples_of}
use Rattle.mg_commands.specs.Name.{name_of, written_as, written_name}
use Rattle.mg_commands.specs.Outcome.{CommandOutcome, Trial, check_command, members_in, names_for, outcome, trial_of, unless_empty}
use Rattle.mg_commands.specs.Search.{first_of}
use Rattle.mg_commands.specs.Support.{takes_all}
use Rattle.mg_commands.specs.Theorems.{RefusedRequestsChangeNothing, depends_on_commands, reports_success}
use Rattle.mg_commands.specs.Transaction.{id_of}
use Rattle.mg_commands.specs.aids.ByActions.{ActionState, ActionsState, action_start, after_commands, after_outcome, after_properties, end_of_action, continue_with, continue_after_action, unless_optional, with_action, with_actions, with_command, with_commands, with_name, with_names, with_trial}
use Rattle.mg_commands.proofs.FoldLemmas.{same_reply}
use Rattle.mg_commands.specs.aids.Steps.{action_unless}

abbrev tells : List Item → Bool
tells items = list_any reports_success items

or_none : (x y : Bool) → (x || y) ≡ false → (x ≡ false) × (y ≡ false)
or_none true y h = absurd (cc h)
or_none false y h = (refl, h)

-- If the concatenation of two lists reports no success, neither list does.
told_parts : (xs ys : List Item) → tells (xs ++ ys) ≡ false → (tells xs ≡ false) × (tells ys ≡ false)
told_parts xs ys h = or_none (tells xs) (tells ys) (sym (list_any-append reports_success xs ys) ∙ h)

-- The gateway is unchanged, and no earlier item reports a success.
record IsAsBefore (run after : ActionState) : Type 0 where
  gateway : after.gateway ≡ run.gateway
  before : tells run.items ≡ false

abbrev Keeps : ActionState → ActionState → Type 0
Keeps run after = tells after.items ≡ false → IsAsBefore run after

kept_on : (run between after : ActionState) → Keeps run between → Keeps between after → Keeps run after
kept_on run between after first second h =
    let later = second h in
    let earlier = first later.before in
    record { gateway = later.gateway ∙ earlier.gateway; before = earlier.before }

-- ## A command

name_keeps : (word : CommandWord) (name : List ℕ) (run : ActionState) (r : CommandOutcome) →
    Keeps run (after_outcome word name run r).0
name_keeps word name run (Ok p) h = absurd (cc
    (told_parts run.items (replies.Command word p.1.term (Done p.1.parts) ∷ []) h).1)
name_keeps word name run (Err e) h = record {
  gateway = refl;
  before = (told_parts run.items (replies.Command word name (Failed e) ∷ []) h).0;
}

name_fails : (word : CommandWord) (name : List ℕ) (run : ActionState) (r : CommandOutcome) →
    tells (after_outcome word name run r).0.items ≡ false → (after_outcome word name run r).1 ≡ false
name_fails word name run (Ok p) h = absurd (cc
    (told_parts run.items (replies.Command word p.1.term (Done p.1.parts) ∷ []) h).1)
name_fails word name run (Err e) h = refl

names_keep : (source : List ℕ) (c : Command) (parameters : CommandParameters) (xs : List Name) (run : ActionState) →
    Keeps run (with_names source c parameters xs run).0
unfolding with_names
names_keep source c parameters [] run h = record { gateway = refl; before = h }
names_keep source c parameters (x ∷ xs) run h =
    let first = (with_name source c parameters x run).0 in
    kept_on run first (with_names source c parameters xs first).0
    (name_keeps c.word (written_as (text_of source c.term) x) run
    (outcome c.word run.gateway run.target x parameters)) (names_keep source c parameters xs first) h

names_fail : (source : List ℕ) (c : Command) (parameters : CommandParameters) (x : Name) (xs : List Name)
    (run : ActionState) → tells (with_names source c parameters (x ∷ xs) run).0.items ≡ false →
    (with_names source c parameters (x ∷ xs) run).1 ≡ false
unfolding with_names
names_fail source c parameters x xs run h =
    let first = (with_name source c parameters x run).0 in
    let rest = names_keep source c parameters xs first h in
    ap (λ (b : Bool). b && (with_names source c parameters xs first).1)
    (name_fails c.word (written_as (text_of source c.term) x) run
    (outcome c.word run.gateway run.target x parameters) rest.before)

-- A command that can be tried is tried on at least one name.
data HasNames : Result Trial ErrorNumber → Type 0 where
  refused : (e : ErrorNumber) → HasNames (Err e)
  some : (parameters : CommandParameters) (x : Name) (xs : List Name) →
      HasNames (Ok (record { parameters = parameters; names = x ∷ xs }))

trial_with : CommandParameters → List Name → Result Trial ErrorNumber
trial_with parameters xs = Ok (record { parameters = parameters; names = xs })

-- Unless there is an error, the list of names is not empty.
data AreSome : Result (List Name) ErrorNumber → Type 0 where
  none_by : (e : ErrorNumber) → AreSome (Err e)
  one_of : (x : Name) (xs : List Name) → AreSome (Ok (x ∷ xs))

not_empty : (xs : List Name) → AreSome (unless_empty xs)
not_empty [] = none_by _
not_empty (x ∷ xs) = one_of x xs

all_are_some : (word : CommandWord) (b : Bool) (xs : List Name) (e : ErrorNumber) → takes_all word ≡ b →
    AreSome (if b then unless_empty xs else Err e)
all_are_some word true xs e h = not_empty xs
all_are_some word false xs e h = none_by e

names_are_some : (w : Gateway) (target : Target) (word : CommandWord) (name : Name) →
    AreSome (names_for w target word name)
names_are_some w target word names.All = all_are_some word (takes_all word) (map names.Number (members_in w target)) _
    refl
names_are_some w target word names.Root = one_of names.Root []
names_are_some w target word names.Choose = one_of names.Choose []
names_are_some w target word (names.Number n) = one_of (names.Number n) []
names_are_some w target word names.Other = one_of names.Other []

tried_on : (parameters : CommandParameters) (r : Result (List Name) ErrorNumber) → AreSome r →
    HasNames (r >>= trial_with parameters)
unfolding trial_with
tried_on parameters (Ok []) h = elim h [ ]
tried_on parameters (Ok (x ∷ xs)) (one_of _ _) = some parameters x xs
tried_on parameters (Err e) (none_by _) = refused e

tried : (r : Result CommandParameters ErrorNumber) (k : Result (List Name) ErrorNumber) → AreSome k →
    HasNames (r >>= (λ parameters. k >>= trial_with parameters))
tried (Ok parameters) k h = tried_on parameters k h
tried (Err e) k h = refused e

trials_have_names : (source : List ℕ) (w : Gateway) (target : Target) (c : Command) →
    HasNames (trial_of source w target c)
unfolding trial_with
trials_have_names source w target c = tried (check_command source c)
    (names_for w target c.word (name_of (text_of source c.term)))
    (names_are_some w target c.word (name_of (text_of source c.term)))

trial_keeps : (source : List ℕ) (c : Command) (run : ActionState) (r : Result Trial ErrorNumber) →
    Keeps run (with_trial source c run r).0
trial_keeps source c run (Ok trial) h = names_keep source c trial.parameters trial.names run h
trial_keeps source c run (Err e) h = name_keeps c.word (written_name (text_of source c.term)) run (Err e) h

trial_fails : (source : List ℕ) (c : Command) (run : ActionState) (r : Result Trial ErrorNumber) → HasNames r →
    tells (with_trial source c run r).0.items ≡ false → (with_trial source c run r).1 ≡ false
trial_fails source c run (Ok trial) (some parameters x xs) h = names_fail source c parameters x xs run h
trial_fails source c run (Err e) (refused _) h = refl

-- ## Commands

-- If neither the first command nor the rest changes the gateway without a success, the two in sequence don't do so
-- either.
go_on_keeps : (rest : ActionState → ActionState × Bool) (run : ActionState) (x : ActionState × Bool) → Keeps run x.0 →
    ((s : ActionState) → Keeps s (rest s).0) → Keeps run (continue_with rest x).0
go_on_keeps rest run (s, true) h k = kept_on run s (rest s).0 h (k s)
go_on_keeps rest run (s, false) h k = h

unless_keeps : (run : ActionState) (c : Command) (x : ActionState × Bool) → Keeps run x.0 →
    Keeps run (unless_optional c x).0
unless_keeps run c (s, b) h = h

commands_keep : (source : List ℕ) (cs : List Command) (run : ActionState) → Keeps run (with_commands source cs run).0
unfolding with_commands
commands_keep source [] run h = record { gateway = refl; before = h }
commands_keep source (c ∷ cs) run h =
    go_on_keeps (with_commands source cs) run (unless_optional c (with_command source c run))
    (unless_keeps run c (with_command source c run)
    (trial_keeps source c run (trial_of source run.gateway run.target c))) (commands_keep source cs) h

abbrev is_needed : Command → Bool
is_needed c = not c.is_optional

-- If all tried commands were refused and none of them ended the action, all of them are optional.
optional_at : (source : List ℕ) (c : Command) (cs : List Command) (x : ActionState × Bool) (b : Bool) →
    c.is_optional ≡ b
    → (tells x.0.items ≡ false → x.1 ≡ false) → ((s : ActionState) → Keeps s (with_commands source cs s).0)
    → ((s : ActionState) → tells (with_commands source cs s).0.items ≡ false → (with_commands source cs s).1 ≡ true →
    list_any is_needed cs ≡ false)
    → tells (continue_with (with_commands source cs) (x.0, b || x.1)).0.items ≡ false →
    (continue_with (with_commands source cs) (x.0, b || x.1)).1 ≡ true → (not b || list_any is_needed cs) ≡ false
optional_at source c cs (s, done) true is fails keeps later h k = later s h k
optional_at source c cs (s, true) false is fails keeps later h k = absurd (cc (fails (keeps s h).before))
optional_at source c cs (s, false) false is fails keeps later h k = absurd (cc k)

all_optional : (source : List ℕ) (cs : List Command) (run : ActionState) →
    tells (with_commands source cs run).0.items ≡ false → (with_commands source cs run).1 ≡ true →
    list_any is_needed cs ≡ false
unfolding with_commands
all_optional source [] run h k = refl
all_optional source (c ∷ cs) run h k =
    optional_at source c cs (with_command source c run) c.is_optional refl
    (trial_fails source c run (trial_of source run.gateway run.target c)
    (trials_have_names source run.gateway run.target c))
    (commands_keep source cs) (all_optional source cs) h k

-- ## Properties

nothing_first : (ps : List ContextProperty) → list_any is_topology ps ≡ false → first_of triples_in ps ≡ None
unfolding first_of
nothing_first [] h = refl
nothing_first (properties.Topology xs ∷ ps) h = absurd (cc h)
nothing_first (properties.ContextAudit ws ∷ ps) h = nothing_first ps h
nothing_first (properties.Priority word ∷ ps) h = nothing_first ps h
nothing_first (properties.Emergency word ∷ ps) h = nothing_first ps h

-- The gateway is unchanged if the operation succeeds.
data Same {A : Type 0} (w : Gateway) : Result (Gateway × A) ErrorNumber → Type 0 where
  same : (p : Gateway × A) → p.0 ≡ w → Same w (Ok p)
  fault : (e : ErrorNumber) → Same w (Err e)

none_there : (w : Gateway) (o : Result ℕ ErrorNumber) → Same w (o >>= (λ c. Ok (w, c)))
none_there w (Ok c) = same (w, c) refl
none_there w (Err e) = fault e

none_applied : (w : Gateway) (target : Target) → Same w (apply_triples w target [])
unfolding apply_triples
none_applied w target = none_there w (existing_context w.rooms target)

audited : {A : Type 0} (w : Gateway) (r : Result (Gateway × ℕ) ErrorNumber) (f : Gateway × ℕ → A) → Same w r →
    Same w (r >>= (λ p. Ok (p.0, f p)))
audited w (Ok p) f (same _ e) = same (p.0, f p) e
audited w (Err e) f (fault _) = fault e

no_topology : (source : List ℕ) (made : Option ℕ) (ps : List ContextProperty) (w : Gateway) (target : Target) →
    list_any is_topology ps ≡ false → Same w (context_outcome source made ps w target)
no_topology source made [] w target h = same (w, []) refl
no_topology source made (x ∷ ps) w target h =
    let none : triples_of source made (x ∷ ps) ≡ [] =
    ap (λ (o : Option (List NamedTriple)). map (topology_triple_of source made) (unwrap_or o []))
    (nothing_first (x ∷ ps) h) in
    audited w (apply_triples w target (triples_of source made (x ∷ ps))) (λ p. audit_items (x ∷ ps) p.0 p.1)
    (subst (λ xs. Same w (apply_triples w target xs)) (sym none) (none_applied w target))

-- ## Actions

record StateAsBefore (s after : ActionsState) : Type 0 where
  gateway : after.gateway ≡ s.gateway
  before : tells s.items ≡ false

ended : (run : ActionState) (w : Gateway) (xs : List Item) → tells (end_of_action run w xs).items ≡ false →
    tells run.items ≡ false
ended run w xs h = (told_parts run.items xs
    (told_parts (run.items ++ xs) (replies.Action (id_of run.target) ∷ []) h).0).0

properties_keep : (run : ActionState) (r : Result (Gateway × List Item) ErrorNumber) → Same run.gateway r →
    tells (after_properties run r).0.items ≡ false → ((after_properties run r).0.gateway ≡ run.gateway) ×
    (tells run.items ≡ false)
properties_keep run (Ok p) (same _ e) h = (e, ended run p.0 p.1 h)
properties_keep run (Err e) (fault _) h = (refl, ended run run.gateway (replies.Fault e ∷ []) h)

-- If a topology depends on commands and no command succeeded, the topology was not applied.
commands_ended : (source : List ℕ) (ps : List ContextProperty) (cs : List Command) (x : ActionState × Bool) (b : Bool)
    → list_any is_topology ps ≡ b
    → (x.1 ≡ true → tells x.0.items ≡ false → list_any is_needed cs ≡ false) → (not b || list_any is_needed cs) ≡ true
    → tells (after_commands source ps x).0.items ≡ false → ((after_commands source ps x).0.gateway ≡ x.0.gateway) ×
    (tells x.0.items ≡ false)
commands_ended source ps cs (run, false) b is all hangs h = (refl, ended run run.gateway [] h)
commands_ended source ps cs (run, true) false is all hangs h =
    properties_keep run (context_outcome source run.made ps run.gateway run.target)
    (no_topology source run.made ps run.gateway run.target is) h
commands_ended source ps cs (run, true) true is all hangs h =
    absurd (needed (told_before run (context_outcome source run.made ps run.gateway run.target) h))
  where
    told_before : (r : ActionState) (o : Result (Gateway × List Item) ErrorNumber) →
        tells (after_properties r o).0.items ≡ false → tells r.items ≡ false
    told_before r (Ok p) k = ended r p.0 p.1 k
    told_before r (Err e) k = ended r r.gateway (replies.Fault e ∷ []) k

    needed : tells run.items ≡ false → ⊥
    needed k = cc (sym hangs ∙ all refl k)

action_keeps : (o : Option ErrorNumber) (source : List ℕ) (a : Action) (s : ActionsState) →
    depends_on_commands a ≡ true → tells (action_unless o source a s).0.items ≡ false →
    StateAsBefore s (action_unless o source a s).0
action_keeps (Some e) source a s hangs h = record {
  gateway = refl;
  before = (told_parts s.items (replies.Fault e ∷ replies.Action a.context ∷ []) h).0;
}
action_keeps None source a s hangs h =
    let x = with_commands source a.commands (action_start a s) in
    let (same_gateway, none) = commands_ended source a.properties a.commands x (list_any is_topology a.properties)
    refl (λ done reported. all_optional source a.commands (action_start a s) reported done) hangs h in
    let commands = commands_keep source a.commands (action_start a s) none in
    record { gateway = same_gateway ∙ commands.gateway; before = commands.before }

state_on : (s : ActionsState) (rest : ActionsState → ActionsState) (x : ActionsState × Bool) →
    (tells x.0.items ≡ false → StateAsBefore s x.0) →
    ((t : ActionsState) → tells (rest t).items ≡ false → StateAsBefore t (rest t))
    → tells (continue_after_action rest x).items ≡ false → StateAsBefore s (continue_after_action rest x)
state_on s rest (t, false) first later h = first h
state_on s rest (t, true) first later h =
    let after = later t h in
    let before = first after.before in
    record { gateway = after.gateway ∙ before.gateway; before = before.before }

actions_keep : (source : List ℕ) (xs : List Action) (s : ActionsState) → list_all depends_on_commands xs ≡ true →
    tells (with_actions source xs s).items ≡ false → StateAsBefore s (with_actions source xs s)
unfolding with_actions with_action
actions_keep source [] s hangs h = record { gateway = refl; before = h }
actions_keep source (a ∷ xs) s hangs h =
    let two = and_parts (depends_on_commands a) (list_all depends_on_commands xs) hangs in
    state_on s (with_actions source xs) (with_action source a s) (action_keeps (action_fault a) source a s two.0)
    (λ t reported. actions_keep source xs t two.1 reported) h

pub refused_requests : RefusedRequestsChangeNothing
refused_requests source request w hangs h =
    let same = same_reply source request w in
    let none = subst (λ (s : ActionsState). tells s.items ≡ false) (sym same) h in
    ap (λ (s : ActionsState). s.gateway) (sym same) ∙
    (actions_keep source request.actions (record { gateway = w; items = [] }) hangs none).gateway

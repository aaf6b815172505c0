-- Each item of a reply has a minimum length, and the last item ends an action.
use Rattle.std.proofs.Common.{◌≡◌, ℕ, ◌+◌, ◌/◌, ◌%◌, ◌≤◌, zero, suc, Bool, true, false, ◌&&◌, ◌||◌, ◌==◌, not, List, [], ◌∷◌, ◌++◌, length, map, Option, Some, None, Result, Ok, Err, refl, ◌∙◌, length-append, arith, codes, decimal, if◌then◌else◌, subst, ap}
use Rattle.std.specs.Fmt.{digits, digits_onto, digit_glyph}
use Rattle.std.specs.List.{list_all, list_any}
use Rattle.std.proofs.lemmas.Bool.{and_parts, le-leb, and_from, or_right}
use Rattle.std.proofs.lemmas.List.Folds.{list_all-append}
use Rattle.mg_scan.specs.Span.{text_of}
use Rattle.mg_words.specs.CommandWord.{command_text}
use Rattle.mg_words.specs.ContextId.{context_text}
use Rattle.mg_words.specs.ErrorNumber.{error_row, error_text}
use Rattle.mg_words.specs.ResultSteps.{◌>>=◌}
use Rattle.mg_words.specs.Term.{rtp_name}
use Rattle.mg_words.specs.declared.command_word.CommandWord.{CommandWord}
use Rattle.mg_words.specs.declared.command_word.CommandWord.TheVariants as words
use Rattle.mg_words.specs.declared.context_id.ContextId.{ContextId}
use Rattle.mg_words.specs.declared.context_id.ContextId.TheVariants as contexts
use Rattle.mg_words.specs.declared.error_number.ErrorNumber.{ErrorNumber}
use Rattle.mg_words.specs.declared.error_number.ErrorNumber.TheVariants.{NotServed}
use Rattle.mg_words.specs.Association.{association_text}
use Rattle.mg_words.specs.declared.association.Association.{Association}
use Rattle.mg_words.specs.declared.association.Association.TheVariants as associations
use Rattle.mg_reply.specs.declared.item.Item.{Item}
use Rattle.mg_reply.specs.declared.item.Item.TheVariants as replies
use Rattle.mg_reply.specs.declared.outcome.Outcome.{Outcome}
use Rattle.mg_reply.specs.declared.outcome.Outcome.TheVariants.{Failed, Done}
use Rattle.mg_reply.specs.Entries.{outcome_text}
use Rattle.mg_reply.specs.Listed.{listed}
use Rattle.mg_reply.specs.Reply.{is_refusal, last_is_action}
use Rattle.mg_reply.specs.aids.Width.{is_wide}
use Rattle.mg_rooms.specs.declared.target.Target.{Target}
use Rattle.mg_engine.specs.Flow.{hears}
use Rattle.mg_engine.specs.Gateway.{Gateway}
use Rattle.mg_engine.specs.Outcome.{add, modify, move_to, subtract, apply_triples}
use Rattle.mg_rooms.specs.Registry.{members_at}
use Rattle.mg_text.specs.declared.context_property.ContextProperty.{ContextProperty}
use Rattle.mg_text.specs.declared.command.Command.{Command}
use Rattle.mg_text.specs.declared.request.Action.{Action}
use Rattle.mg_text.specs.declared.request.Request.{Request}
use Rattle.mg_text.specs.Proper.{action_is_proper, request_is_proper}
use Rattle.mg_commands.specs.declared.command_parameters.CommandParameters.{CommandParameters}
use Rattle.mg_commands.specs.declared.name.Name.{Name}
use Rattle.mg_commands.specs.declared.served.Served.{Served}
use Rattle.mg_commands.specs.Name.{written_as, written_name}
use Rattle.mg_commands.specs.ContextProperties.{is_context_audit, action_fault, triples_of, pair_item, audit_pair, audit_pairs, audit_items, context_outcome}
use Rattle.mg_commands.specs.Outcome.{CommandOutcome, Trial, check_new_name, number_in, outcome, trial_of}
use Rattle.mg_commands.specs.aids.Steps.{in_same_world}
use Rattle.mg_commands.specs.Transaction.{replied}
use Rattle.mg_commands.specs.aids.ByActions.{ActionState, ActionsState, after_outcome, with_name, with_names, with_trial, with_command, unless_optional, continue_with, with_commands, action_start, end_of_action, after_properties, after_commands, refusal, with_action, continue_after_action, with_actions}
use Rattle.mg_commands.proofs.FoldLemmas.{same_reply}
use Rattle.mg_commands.specs.aids.Steps.{action_unless}

-- ## Texts

if_longer : (b : Bool) (m : ℕ) (xs ys : List ℕ) → m ≤ length xs → m ≤ length ys → m ≤ length (if b then xs else ys)
if_longer true m xs ys h k = h
if_longer false m xs ys h k = k

onto_longer : (k base : ℕ) (upper : Bool) (n : ℕ) (acc : List ℕ) → length acc ≤ length (digits_onto k base upper n acc)
onto_longer zero base upper n acc = omega arith
onto_longer (suc k) base upper n acc =
    let x = digit_glyph upper (n % base) in
    let rest = onto_longer k base upper (n / base) (x ∷ acc) in
    if_longer (n / base == 0) (length acc) (x ∷ acc) (digits_onto k base upper (n / base) (x ∷ acc)) (omega arith)
    (omega (arith, rest))

decimal_some : (n : ℕ) → 1 ≤ length (decimal n)
unfolding digits
decimal_some n =
    let x = digit_glyph false (n % 10) in
    if_longer (n / 10 == 0) 1 (x ∷ []) (digits_onto 63 10 false (n / 10) (x ∷ [])) (omega arith)
    (onto_longer 63 10 false (n / 10) (x ∷ []))

rtp_long : (n : ℕ) → 5 ≤ length (rtp_name n)
rtp_long n = omega (arith, length-append (codes "RTP/") (decimal n), decimal_some n)

word_long : (word : CommandWord) → 3 ≤ length (command_text word)
unfolding command_text
word_long words.Add = omega arith
word_long words.Modify = omega arith
word_long words.Move = omega arith
word_long words.Subtract = omega arith
word_long words.AuditValue = omega arith
word_long words.AuditCapability = omega arith
word_long words.Notify = omega arith
word_long words.ServiceChange = omega arith

audit_long : 10 ≤ length (command_text words.AuditValue)
unfolding command_text
audit_long = omega arith

error_long : (e : ErrorNumber) → 9 ≤ length (error_text e)
unfolding error_text
error_long e =
    let row = error_row e in
    omega (
      arith,
      length-append (codes "Error=") (decimal row.0 ++ (codes "{\"" ++ (row.1 ++ codes "\"}"))),
      length-append (decimal row.0) (codes "{\"" ++ (row.1 ++ codes "\"}")),
      length-append (codes "{\"") (row.1 ++ codes "\"}"),
      length-append row.1 (codes "\"}"),
    )

context_some : (id : ContextId) → 1 ≤ length (context_text id)
context_some contexts.Null = omega arith
context_some contexts.Choose = omega arith
context_some contexts.All = omega arith
context_some (contexts.Number n) = decimal_some n

-- ## Items

action_wide : (id : ContextId) → is_wide (replies.Action id) ≡ true
action_wide id = le-leb 9 _ (omega (
  arith,
  length-append (codes "Context=") (context_text id ++ []),
  length-append (context_text id) [],
  context_some id,
))

fault_wide : (e : ErrorNumber) → is_wide (replies.Fault e) ≡ true
fault_wide e = le-leb 9 _ (error_long e)

command_wide : (word : CommandWord) (term : List ℕ) (o : Outcome) →
    9 ≤ length (command_text word) + (1 + (length term + length (outcome_text o))) →
    is_wide (replies.Command word term o) ≡ true
command_wide word term o h = le-leb 9 _ (omega (
  arith,
  h,
  length-append (command_text word) (codes "=" ++ (term ++ outcome_text o)),
  length-append (codes "=") (term ++ outcome_text o),
  length-append term (outcome_text o),
))

failed_long : (e : ErrorNumber) → 9 ≤ length (outcome_text (Failed e))
unfolding listed
failed_long e = omega (
  arith,
  error_long e,
  length-append (codes "{" ++ (error_text e ++ [])) (codes "}"),
  length-append (codes "{") (error_text e ++ []),
  length-append (error_text e) [],
)

triple_wide : (a b : ℕ) (association : Association) →
    is_wide (replies.Triple (rtp_name a) (rtp_name b) association) ≡ true
triple_wide a b association =
    let last = codes "," ++ association_text association in
    le-leb 9 _ (omega (
      arith,
      length-append (rtp_name a) (codes "," ++ (rtp_name b ++ last)),
      length-append (codes ",") (rtp_name b ++ last),
      length-append (rtp_name b) last,
      rtp_long a,
      rtp_long b,
    ))

-- ## Outcomes

by_bind : {A B E : Type 0} (P : Result B E → Type 0) (r : Result A E) (f : A → Result B E) → ((x : A) → P (f x)) →
    ((e : E) → P (Err e)) → P (r >>= f)
by_bind P (Ok x) f h e = h x
by_bind P (Err y) f h e = e y

-- The keyword, the equals sign and the termination's name in the item of a successful command have at least 9 bytes.
data IsLong (word : CommandWord) : CommandOutcome → Type 0 where
  done : (p : Gateway × Served) → 9 ≤ length (command_text word) + (1 + length p.1.term) → IsLong word (Ok p)
  failed : (e : ErrorNumber) → IsLong word (Err e)

named : (word : CommandWord) (w : Gateway) (s : Served) (n : ℕ) → s.term ≡ rtp_name n → IsLong word (Ok (w, s))
named word w s n is = done (w, s) (omega (arith, word_long word, rtp_long n, ap length is))

audit_is_long : (w : Gateway) (r : Result Served ErrorNumber) → IsLong words.AuditValue (in_same_world w r)
audit_is_long w (Ok s) = done (w, s) (omega (arith, audit_long))
audit_is_long w (Err e) = failed e

outcome_long : (word : CommandWord) (w : Gateway) (target : Target) (name : Name) (parameters : CommandParameters) →
    IsLong word (outcome word w target name parameters)
unfolding outcome
outcome_long words.Add w target name parameters =
    by_bind (IsLong words.Add) (check_new_name w name) _
    (λ u. by_bind (IsLong words.Add) (add w target parameters.settings) _
    (λ p. named words.Add p.0 _ p.1.number refl) failed) failed
outcome_long words.Modify w target name parameters =
    by_bind (IsLong words.Modify) (number_in name) _
    (λ n. by_bind (IsLong words.Modify) (modify w target n parameters.settings) _
    (λ p. named words.Modify p.0 _ p.1.number refl) failed) failed
outcome_long words.Move w target name parameters =
    by_bind (IsLong words.Move) (number_in name) _
    (λ n. by_bind (IsLong words.Move) (move_to w target n parameters.settings) _
    (λ p. named words.Move p.0 _ p.1.number refl) failed) failed
outcome_long words.Subtract w target name parameters =
    by_bind (IsLong words.Subtract) (number_in name) _
    (λ n. by_bind (IsLong words.Subtract) (subtract w target n) _
    (λ p. named words.Subtract p.0 _ p.1.number refl) failed) failed
outcome_long words.AuditValue w target name parameters = audit_is_long w _
outcome_long words.AuditCapability w target name parameters = failed NotServed
outcome_long words.Notify w target name parameters = failed NotServed
outcome_long words.ServiceChange w target name parameters = failed NotServed

-- ## Items of a run

abbrev AreWide : List Item → Type 0
AreWide xs = list_all is_wide xs ≡ true

wide_last : (xs : List Item) (x : Item) → AreWide xs → is_wide x ≡ true → AreWide (xs ++ x ∷ [])
wide_last xs x h k = list_all-append is_wide xs (x ∷ []) ∙
    and_from (list_all is_wide xs) (is_wide x && true) h (and_from (is_wide x) true k refl)

after_outcome_wide : (word : CommandWord) (name : List ℕ) (run : ActionState) (r : CommandOutcome) → IsLong word r →
    AreWide run.items → AreWide (after_outcome word name run r).0.items
after_outcome_wide word name run (Ok p) (done _ h) wide =
    wide_last run.items (replies.Command word p.1.term (Done p.1.parts)) wide
    (command_wide word p.1.term (Done p.1.parts) (omega (arith, h)))
after_outcome_wide word name run (Err e) (failed _) wide =
    wide_last run.items (replies.Command word name (Failed e)) wide
    (command_wide word name (Failed e) (omega (arith, failed_long e)))

with_name_wide : (source : List ℕ) (c : Command) (parameters : CommandParameters) (name : Name) (run : ActionState) →
    AreWide run.items → AreWide (with_name source c parameters name run).0.items
with_name_wide source c parameters name run wide =
    after_outcome_wide c.word (written_as (text_of source c.term) name) run
    (outcome c.word run.gateway run.target name parameters)
    (outcome_long c.word run.gateway run.target name parameters) wide

with_names_wide : (source : List ℕ) (c : Command) (parameters : CommandParameters) (xs : List Name)
    (run : ActionState) → AreWide run.items → AreWide (with_names source c parameters xs run).0.items
unfolding with_names
with_names_wide source c parameters [] run wide = wide
with_names_wide source c parameters (x ∷ xs) run wide =
    with_names_wide source c parameters xs (with_name source c parameters x run).0
    (with_name_wide source c parameters x run wide)

with_trial_wide : (source : List ℕ) (c : Command) (run : ActionState) (r : Result Trial ErrorNumber) →
    AreWide run.items → AreWide (with_trial source c run r).0.items
with_trial_wide source c run (Ok trial) wide = with_names_wide source c trial.parameters trial.names run wide
with_trial_wide source c run (Err e) wide =
    after_outcome_wide c.word (written_name (text_of source c.term)) run (Err e) (failed e) wide

go_on_wide : (rest : ActionState → ActionState × Bool) (x : ActionState × Bool) → AreWide x.0.items →
    ((run : ActionState) → AreWide run.items → AreWide (rest run).0.items) → AreWide (continue_with rest x).0.items
go_on_wide rest (run, true) h k = k run h
go_on_wide rest (run, false) h k = h

commands_wide : (source : List ℕ) (cs : List Command) (run : ActionState) → AreWide run.items →
    AreWide (with_commands source cs run).0.items
unfolding with_commands
commands_wide source [] run wide = wide
commands_wide source (c ∷ cs) run wide =
    go_on_wide (with_commands source cs) (unless_optional c (with_command source c run))
    (with_trial_wide source c run (trial_of source run.gateway run.target c) wide) (commands_wide source cs)

wide_more : (xs ys : List Item) → AreWide xs → AreWide ys → AreWide (xs ++ ys)
wide_more xs ys h k = list_all-append is_wide xs ys ∙ and_from (list_all is_wide xs) (list_all is_wide ys) h k

-- ## Items that report about a context

pair_item_wide : (x y : Bool) (a b : ℕ) → is_wide (pair_item x y a b) ≡ true
pair_item_wide true true a b = triple_wide a b associations.Bothway
pair_item_wide true false a b = triple_wide a b associations.Oneway
pair_item_wide false true a b = triple_wide b a associations.Oneway
pair_item_wide false false a b = triple_wide a b associations.Isolate

pairs_of_wide : (w : Gateway) (a : ℕ) (bs : List ℕ) → AreWide (map (audit_pair w a) bs)
pairs_of_wide w a [] = refl
pairs_of_wide w a (b ∷ bs) = and_from (is_wide (audit_pair w a b)) (list_all is_wide (map (audit_pair w a) bs))
    (pair_item_wide (hears w a b) (hears w b a) a b) (pairs_of_wide w a bs)

pairs_wide : (w : Gateway) (members : List ℕ) → AreWide (audit_pairs w members)
unfolding audit_pairs
pairs_wide w [] = refl
pairs_wide w (a ∷ members) = wide_more (map (audit_pair w a) members) (audit_pairs w members)
    (pairs_of_wide w a members) (pairs_wide w members)

if_holds : {A : Type 0} (P : A → Type 0) (b : Bool) (x y : A) → P x → P y → P (if b then x else y)
if_holds P true x y h k = h
if_holds P false x y h k = k

audit_wide : (ps : List ContextProperty) (w : Gateway) (c : ℕ) → AreWide (audit_items ps w c)
audit_wide ps w c = if_holds AreWide (list_any is_context_audit ps) (audit_pairs w (members_at w.rooms c)) []
    (pairs_wide w (members_at w.rooms c)) refl

-- If the properties of a context are applied, the items that report about it have the minimum length.
data TellsWide : Result (Gateway × List Item) ErrorNumber → Type 0 where
  reported : (p : Gateway × List Item) → AreWide p.1 → TellsWide (Ok p)
  refused : (e : ErrorNumber) → TellsWide (Err e)

context_wide : (source : List ℕ) (made : Option ℕ) (ps : List ContextProperty) (w : Gateway) (target : Target) →
    TellsWide (context_outcome source made ps w target)
context_wide source made [] w target = reported (w, []) refl
context_wide source made (x ∷ ps) w target =
    by_bind TellsWide (apply_triples w target (triples_of source made (x ∷ ps))) _
    (λ p. reported (p.0, audit_items (x ∷ ps) p.0 p.1) (audit_wide (x ∷ ps) p.0 p.1)) refused

-- ## Actions

ended_wide : (run : ActionState) (w : Gateway) (items : List Item) → AreWide run.items → AreWide items →
    AreWide (end_of_action run w items).items
ended_wide run w items h k = wide_last (run.items ++ items) _ (wide_more run.items items h k) (action_wide _)

after_properties_wide : (run : ActionState) (r : Result (Gateway × List Item) ErrorNumber) → TellsWide r →
    AreWide run.items → AreWide (after_properties run r).0.items
after_properties_wide run (Ok p) (reported _ k) h = ended_wide run p.0 p.1 h k
after_properties_wide run (Err e) (refused _) h =
    ended_wide run run.gateway (replies.Fault e ∷ []) h (and_from (is_wide (replies.Fault e)) true (fault_wide e) refl)

after_commands_wide : (source : List ℕ) (ps : List ContextProperty) (x : ActionState × Bool) → AreWide x.0.items →
    AreWide (after_commands source ps x).0.items
after_commands_wide source ps (run, true) h =
    after_properties_wide run (context_outcome source run.made ps run.gateway run.target)
    (context_wide source run.made ps run.gateway run.target) h
after_commands_wide source ps (run, false) h = ended_wide run run.gateway [] h refl

refusal_wide : (a : Action) (s : ActionsState) (e : ErrorNumber) → AreWide s.items → AreWide (refusal a s e).0.items
refusal_wide a s e h = list_all-append is_wide s.items (replies.Fault e ∷ replies.Action a.context ∷ []) ∙
    and_from (list_all is_wide s.items) _ h (and_from (is_wide (replies.Fault e)) _ (fault_wide e)
    (and_from (is_wide (replies.Action a.context)) true (action_wide a.context) refl))

unless_wide : (o : Option ErrorNumber) (source : List ℕ) (a : Action) (s : ActionsState) → AreWide s.items →
    AreWide (action_unless o source a s).0.items
unless_wide (Some e) source a s wide = refusal_wide a s e wide
unless_wide None source a s wide = after_commands_wide source a.properties
    (with_commands source a.commands (action_start a s)) (commands_wide source a.commands (action_start a s) wide)

with_action_wide : (source : List ℕ) (a : Action) (s : ActionsState) → AreWide s.items →
    AreWide (with_action source a s).0.items
unfolding with_action
with_action_wide source a s wide = unless_wide (action_fault a) source a s wide

rest_of_holds : (P : ActionsState → Type 0) (rest : ActionsState → ActionsState)
    (x : ActionsState × Bool) → P x.0 → ((s : ActionsState) → P s → P (rest s)) → P (continue_after_action rest x)
rest_of_holds P rest (s, true) h k = k s h
rest_of_holds P rest (s, false) h k = h

actions_wide : (source : List ℕ) (xs : List Action) (s : ActionsState) → AreWide s.items →
    AreWide (with_actions source xs s).items
unfolding with_actions
actions_wide source [] s wide = wide
actions_wide source (a ∷ xs) s wide = rest_of_holds (λ (s : ActionsState). AreWide s.items)
    (with_actions source xs) (with_action source a s) (with_action_wide source a s wide) (actions_wide source xs)

pub items_are_wide : (source : List ℕ) (request : Request) (w : Gateway) → request_is_proper source request ≡ true →
    list_all is_wide (replied source request w).items ≡ true
items_are_wide source request w proper =
    subst (λ (s : ActionsState). list_all is_wide s.items ≡ true) (same_reply source request w)
    (actions_wide source request.actions (record { gateway = w; items = [] }) refl)

-- ## The last item

abbrev HasEnded : ActionsState → Type 0
HasEnded s = last_is_action false s.items ≡ true

last_action : (b : Bool) (xs : List Item) (id : ContextId) → last_is_action b (xs ++ replies.Action id ∷ []) ≡ true
last_action b [] id = refl
last_action b (x ∷ xs) id = last_action _ xs id

last_refusal : (b : Bool) (xs : List Item) (e : ErrorNumber) (id : ContextId) →
    last_is_action b (xs ++ replies.Fault e ∷ replies.Action id ∷ []) ≡ true
last_refusal b [] e id = refl
last_refusal b (x ∷ xs) e id = last_refusal _ xs e id

after_properties_last : (run : ActionState) (r : Result (Gateway × List Item) ErrorNumber) →
    HasEnded (after_properties run r).0
after_properties_last run (Ok p) = last_action false (run.items ++ p.1) _
after_properties_last run (Err e) = last_action false (run.items ++ replies.Fault e ∷ []) _

after_commands_last : (source : List ℕ) (ps : List ContextProperty) (x : ActionState × Bool) →
    HasEnded (after_commands source ps x).0
after_commands_last source ps (run, true) =
    after_properties_last run (context_outcome source run.made ps run.gateway run.target)
after_commands_last source ps (run, false) = last_action false (run.items ++ []) _

unless_last : (o : Option ErrorNumber) (source : List ℕ) (a : Action) (s : ActionsState) →
    HasEnded (action_unless o source a s).0
unless_last (Some e) source a s = last_refusal false s.items e a.context
unless_last None source a s = after_commands_last source a.properties
    (with_commands source a.commands (action_start a s))

with_action_last : (source : List ℕ) (a : Action) (s : ActionsState) → HasEnded (with_action source a s).0
unfolding with_action
with_action_last source a s = unless_last (action_fault a) source a s

actions_last : (source : List ℕ) (xs : List Action) (s : ActionsState) → HasEnded s →
    HasEnded (with_actions source xs s)
unfolding with_actions
actions_last source [] s h = h
actions_last source (a ∷ xs) s h = rest_of_holds HasEnded (with_actions source xs) (with_action source a s)
    (with_action_last source a s) (actions_last source xs)

some_actions_last : (source : List ℕ) (xs : List Action) (s : ActionsState) → not (length xs == 0) ≡ true →
    HasEnded (with_actions source xs s)
unfolding with_actions
some_actions_last source [] s h = absurd (cc h)
some_actions_last source (a ∷ xs) s h = rest_of_holds HasEnded (with_actions source xs) (with_action source a s)
    (with_action_last source a s) (actions_last source xs)

pub items_are_whole : (source : List ℕ) (request : Request) (w : Gateway) → request_is_proper source request ≡ true
    → (is_refusal (replied source request w).items || last_is_action false (replied source request w).items) ≡ true
items_are_whole source request w proper =
    let two = and_parts (not (length request.actions == 0)) (list_all (action_is_proper source) request.actions)
    proper in
    or_right (is_refusal (replied source request w).items) (last_is_action false (replied source request w).items)
    (subst HasEnded (same_reply source request w)
    (some_actions_last source request.actions (record { gateway = w; items = [] }) two.0))

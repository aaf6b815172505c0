-- The program's state after each step of a request represents the state in the definitions.
use Rattle.std.proofs.Common.{if◌then◌else◌, ◌≡◌, ℕ, ◌+◌, ◌*◌, ◌<◌, ◌≤◌, Bool, true, false, ◌&&◌, ◌||◌, List, [], ◌∷◌, ◌++◌, length, map, get_or, drop, Option, Some, None, Result, Ok, Err, refl, sym, ap, subst, ◌∙◌, append_assoc}
use Rattle.std.specs.List.{list_all}
use Rattle.std.specs.Option.{option_or}
use Rattle.std.proofs.lemmas.List.{drop_more, drop_all}
use Rattle.std.proofs.lemmas.List.Folds.{list_all_at}
use Rattle.mg_scan.specs.Span.{text_of}
use Rattle.mg_words.specs.Leads.{Leads}
use Rattle.mg_words.specs.ResultSteps.{◌>>=◌}
use Rattle.mg_words.specs.declared.error_number.ErrorNumber.{ErrorNumber}
use Rattle.mg_reply.specs.declared.item.Item.{Item}
use Rattle.mg_reply.specs.declared.item.Item.TheVariants as replies
use Rattle.mg_reply.specs.declared.outcome.Outcome.TheVariants.{Failed, Done}
use Rattle.mg_reply.specs.Reply.{Answered, new_reply, after_put, after_all}
use Rattle.mg_rooms.specs.declared.target.Target.{Target}
use Rattle.mg_engine.specs.Gateway.{Gateway}
use Rattle.mg_engine.specs.aids.Stands.{EngineState, StandsFor, IsOutcome}
use Rattle.mg_engine.specs.Work.{RisesAtMost}
use Rattle.mg_text.specs.declared.command.Command.{Command}
use Rattle.mg_text.specs.declared.request.Action.{Action}
use Rattle.mg_text.specs.declared.request.Request.{Request}
use Rattle.mg_text.specs.Proper.{command_is_proper, action_is_proper}
use Rattle.mg_commands.specs.declared.command_parameters.CommandParameters.{CommandParameters}
use Rattle.mg_commands.specs.declared.name.Name.{Name}
use Rattle.mg_commands.specs.declared.name.Name.TheVariants as names
use Rattle.mg_commands.specs.declared.progress.Progress.{Progress}
use Rattle.mg_commands.specs.declared.served.Served.{Served}
use Rattle.mg_commands.specs.ContextProperties.{action_fault, context_outcome}
use Rattle.mg_commands.specs.Name.{name_of, written_as, written_name}
use Rattle.mg_commands.specs.Outcome.{Trial, outcome, check_command, names_for}
use Rattle.mg_commands.specs.aids.Steps.{all_names}
use Rattle.mg_commands.specs.Transaction.{id_of, target_of, replied}
use Rattle.mg_commands.specs.aids.ByActions.{ActionState, ActionsState, after_outcome, with_name, and_then, with_names, with_trial, with_command, unless_optional, continue_with, with_commands, action_start, end_of_action, after_properties, after_commands, with_action, with_actions}
use Rattle.mg_commands.proofs.FoldLemmas.{same_reply}
use Rattle.mg_commands.specs.aids.Steps.{action_unless}
use Rattle.mg_commands.specs.aids.Runs.{Base, IsPaid, ActionKept, action_kept, IsActionRun, with_all, TransactionKept}
use Rattle.mg_commands.specs.aids.Runs.{transaction_kept, IsTransaction, ReportsProperties}
use Rattle.mg_commands.specs.Work.{is_edit, edits_reported}
use Rattle.mg_commands.proofs.PutLemmas.{put_next, put_more}
use Rattle.mg_commands.proofs.WorkLemmas.{paid_one, paid_still, paid_nothing}

pub value_cases : (b : Bool) → (b ≡ false → true ≡ false) → b ≡ true
value_cases true h = refl
value_cases false h = sym (h refl)

-- If all commands are proper, each command is proper.
pub command_proper : (source : List ℕ) (cs : List Command) (i : ℕ) (d : Command) → i < length cs →
    list_all (command_is_proper source) cs ≡ true → command_is_proper source (get_or cs i d) ≡ true
command_proper source cs i d lt all = value_cases (command_is_proper source (get_or cs i d))
    (λ h. sym all ∙ list_all_at (command_is_proper source) cs i d lt h)

pub action_proper : (source : List ℕ) (xs : List Action) (i : ℕ) (d : Action) → i < length xs →
    list_all (action_is_proper source) xs ≡ true → action_is_proper source (get_or xs i d) ≡ true
action_proper source xs i d lt all = value_cases (action_is_proper source (get_or xs i d))
    (λ h. sym all ∙ list_all_at (action_is_proper source) xs i d lt h)

pub ruleset propers = (command_proper, action_proper)

-- ## A command for one name

abbrev item_done : Command → Served → Item
item_done c s = replies.Command c.word s.term (Done s.parts)

abbrev item_failed : Command → List ℕ → ErrorNumber → Item
item_failed c term e = replies.Command c.word term (Failed e)

abbrev name_told : List ℕ → Command → Name → List ℕ
name_told source c name = written_as (text_of source c.term) name

with_outcome : (source : List ℕ) (c : Command) (parameters : CommandParameters) (name : Name) (run : ActionState)
    (target : Target) → run.target ≡ target →
    with_name source c parameters name run ≡ after_outcome c.word (name_told source c name) run
    (outcome c.word run.gateway target name parameters)
with_outcome source c parameters name run target h =
    ap (λ (t : Target). after_outcome c.word (name_told source c name) run
    (outcome c.word run.gateway t name parameters)) h

made_first : (a b made : Option ℕ) (reported : Option ℕ) → a ≡ b → reported ≡ option_or b made → option_or a made ≡ reported
made_first a (Some n) made reported h e = ap (λ (o : Option ℕ). option_or o made) h ∙ sym e
made_first a None made reported h e = ap (λ (o : Option ℕ). option_or o made) h ∙ sym e

pub name_done : (source : List ℕ) (c : Command) (parameters : CommandParameters) (name : Name) (old new : EngineState)
    (progress : Progress) (before reported : Answered) (s : Served) (made : Option ℕ) →
    ((w : Gateway) → StandsFor old w → IsOutcome new (Ok s) (outcome c.word w progress.target name parameters)) →
    RisesAtMost (if is_edit c.word then 4 else 0) old.sums.work new.sums.work →
    made ≡ option_or progress.made s.made → reported ≡ after_put before (item_done c s)
    → (base : Base) → Leads (IsActionRun base) (action_kept old progress before)
    (action_kept new (record { target = s.target; made = made }) reported)
    (λ run next. with_name source c parameters name run ≡ (next, true))
name_done source c parameters name old new progress before reported s made represents cost is put base run h =
    let (w, did, stands) = represents run.gateway h.gateway in (
      record {
        gateway = w;
        target = s.target;
        made = option_or run.made s.made;
        items = run.items ++ item_done c s ∷ [];
      },
      with_outcome source c parameters name run progress.target h.target ∙
          ap (after_outcome c.word (name_told source c name) run) did,
      record {
        gateway = stands;
        target = refl;
        made = made_first run.made progress.made s.made made h.made is;
        reply = put ∙ put_next base.reply before run.items (item_done c s) h.reply;
        work = paid_one base run.items c.word s.term s.parts old new h.work cost;
      },
    )

-- An item that reports an error leaves the gateway and the action's progress unchanged.
failed_stands : (c : Command) (term : List ℕ) (old new : EngineState) (progress : Progress) (before reported : Answered)
    (e : ErrorNumber) → new ≡ old → reported ≡ after_put before (item_failed c term e)
    → (base : Base) (run : ActionState) → IsActionRun base (action_kept old progress before) run →
    IsActionRun base (action_kept new progress reported) (record run { items = run.items ++ item_failed c term e ∷ [] })
failed_stands c term old new progress before reported e same put base run h =
    record {
      gateway = rw same h.gateway;
      target = h.target;
      made = h.made;
      reply = put ∙ put_next base.reply before run.items (item_failed c term e) h.reply;
      work = paid_still base run.items (item_failed c term e ∷ []) old new h.work
          (ap (λ (k : EngineState). k.sums.work) same);
    }

pub name_failed : (source : List ℕ) (c : Command) (parameters : CommandParameters) (name : Name)
    (old new : EngineState) (progress : Progress) (before reported : Answered) (e : ErrorNumber) →
    ((w : Gateway) → StandsFor old w → IsOutcome new (Err e) (outcome c.word w progress.target name parameters)) →
    new ≡ old → reported ≡ after_put before (item_failed c (name_told source c name) e)
    → (base : Base) → Leads (IsActionRun base) (action_kept old progress before) (action_kept new progress reported)
    (λ run next. with_name source c parameters name run ≡ (next, false))
name_failed source c parameters name old new progress before reported e represents same put base run h = (
  record run { items = run.items ++ item_failed c (name_told source c name) e ∷ [] },
  with_outcome source c parameters name run progress.target h.target ∙
      ap (after_outcome c.word (name_told source c name) run) (represents run.gateway h.gateway),
  failed_stands c (name_told source c name) old new progress before reported e same put base run h,
)

-- ## A command for members

next_member : (source : List ℕ) (c : Command) (parameters : CommandParameters) (members : List ℕ) (i d : ℕ)
    (run next : ActionState) (is_done : Bool) → i < length members →
    with_name source c parameters (names.Number (get_or members i d)) run ≡ (next, is_done)
    → with_names source c parameters (map names.Number (drop i members)) run ≡
    and_then (with_names source c parameters (map names.Number (drop (i + 1) members))) (next, is_done)
unfolding with_names
next_member source c parameters members i d run next is_done lt e = rw (drop_more members i d lt, e) refl

members_end : (source : List ℕ) (c : Command) (parameters : CommandParameters) (members : List ℕ) (i : ℕ)
    (run : ActionState) → length members ≤ i →
    with_names source c parameters (map names.Number (drop i members)) run ≡ (run, true)
unfolding with_names
members_end source c parameters members i run le = rw (drop_all i members le) refl

-- Using `and_then` with one flag after another is the same as using it once with the conjunction of both flags.
and_then_twice : (rest : ActionState → ActionState × Bool) (a b : Bool) (run : ActionState) →
    and_then (λ x. and_then rest (x, b)) (run, a) ≡ and_then rest (run, a && b)
and_then_twice rest true b run = refl
and_then_twice rest false b run = refl

was_done : (run : ActionState) (a : Bool) → (let x : ActionState × Bool = (run, a && true) in x) ≡ (run, a)
was_done run true = refl
was_done run false = refl

-- The loop over members, before member `i`. Each action that the state on entry represents becomes an action that the
-- current state represents.
module _ (source : List ℕ) (c : Command) (parameters : CommandParameters) (members : List ℕ) (base : Base)
    (entered kept : ActionKept) (i : ℕ) (were_done : Bool)
    (inside : Leads (IsActionRun base) entered kept
    (λ run now. with_names source c parameters (map names.Number members) run ≡
    and_then (with_names source c parameters (map names.Number (drop i members))) (now, were_done))) where
  pub members_go_on : (n d : ℕ) (new : ActionKept) (is_done are_done : Bool) → i < length members →
      n ≡ get_or members i d → are_done ≡ (were_done && is_done) →
      Leads (IsActionRun base) kept new (λ run next. with_name source c parameters (names.Number n) run ≡
      (next, is_done)) → Leads (IsActionRun base) entered new
      (λ run now. with_names source c parameters (map names.Number members) run ≡
      and_then (with_names source c parameters (map names.Number (drop (i + 1) members))) (now, are_done))
  members_go_on n d new is_done are_done lt is all step run h =
      let (now, represents, stands) = inside run h in
      let (next, did, left) = step now stands in
      let rest = with_names source c parameters (map names.Number (drop (i + 1) members)) in
      let one = next_member source c parameters members i d now next is_done lt
      (ap (λ (n : ℕ). with_name source c parameters (names.Number n) now) (sym is) ∙ did) in (
        next,
        represents ∙ ap (λ (x : ActionState × Bool). (x.0, were_done && x.1)) one ∙
            and_then_twice rest were_done is_done next ∙ ap (λ (b : Bool). and_then rest (next, b)) (sym all),
        left,
      )

  pub members_finish : length members ≤ i → Leads (IsActionRun base) entered kept
      (λ run next. with_names source c parameters (map names.Number members) run ≡ (next, were_done))
  members_finish le run h =
      let (now, represents, stands) = inside run h in (
        now,
        represents ∙ ap (λ (x : ActionState × Bool). (x.0, were_done && x.1))
            (members_end source c parameters members i now le) ∙ was_done now were_done,
        stands,
      )

-- ## A command for all members

abbrev tried_on : CommandParameters → Result (List Name) ErrorNumber → Result Trial ErrorNumber
tried_on parameters r = do
  xs ← r
  Ok (record { parameters = parameters; names = xs })

with_matches : (source : List ℕ) (c : Command) (parameters : CommandParameters) (run : ActionState) (target : Target)
    (r : Result (List Name) ErrorNumber) → run.target ≡ target → all_names run.gateway target c.word ≡ r →
    with_all source c parameters run ≡ with_trial source c run (tried_on parameters r)
with_matches source c parameters run target r h is =
    ap (λ (t : Target). with_trial source c run (tried_on parameters (all_names run.gateway t c.word))) h ∙
    ap (λ (r : Result (List Name) ErrorNumber). with_trial source c run (tried_on parameters r)) is

pub all_refused : (source : List ℕ) (c : Command) (parameters : CommandParameters) (kept : EngineState)
    (progress : Progress) (before reported : Answered) (e : ErrorNumber) →
    ((w : Gateway) → StandsFor kept w → all_names w progress.target c.word ≡ Err e) →
    reported ≡ after_put before (item_failed c (written_name (text_of source c.term)) e)
    → (base : Base) → Leads (IsActionRun base) (action_kept kept progress before) (action_kept kept progress reported)
    (λ run next. with_all source c parameters run ≡ (next, false))
all_refused source c parameters kept progress before reported e found put base run h =
    let term = written_name (text_of source c.term) in (
      record run { items = run.items ++ item_failed c term e ∷ [] },
      with_matches source c parameters run progress.target (Err e) h.target (found run.gateway h.gateway),
      failed_stands c term kept kept progress before reported e refl put base run h,
    )

-- ## A command

abbrev tried_with : Gateway → Target → Command → Name → Result CommandParameters ErrorNumber → Result Trial ErrorNumber
tried_with w target c name r = do
  parameters ← r
  xs ← names_for w target c.word name
  Ok (record { parameters = parameters; names = xs })

with_checked : (source : List ℕ) (c : Command) (run : ActionState) (name : Name)
    (r : Result CommandParameters ErrorNumber) → check_command source c ≡ r → name_of (text_of source c.term) ≡ name →
    with_command source c run ≡ with_trial source c run (tried_with run.gateway run.target c name r)
with_checked source c run name r h is = ap (λ (r : Result CommandParameters ErrorNumber). with_trial source c run
    (tried_with run.gateway run.target c (name_of (text_of source c.term)) r)) h ∙
    ap (λ (name : Name). with_trial source c run (tried_with run.gateway run.target c name r)) is

-- Adding a success to a result leaves the result unchanged.
alone : (x : ActionState × Bool) → (let y : ActionState × Bool = (x.0, x.1 && true) in y) ≡ x
alone (run, is_done) = was_done run is_done

for_one : (source : List ℕ) (c : Command) (parameters : CommandParameters) (name : Name) (run : ActionState) →
    with_names source c parameters (name ∷ []) run ≡ with_name source c parameters name run
unfolding with_names
for_one source c parameters name run = alone (with_name source c parameters name run)

one_tried : (source : List ℕ) (c : Command) (parameters : CommandParameters) (name : Name) (run : ActionState) →
    (name ≡ names.All → ⊥) → with_trial source c run (tried_with run.gateway run.target c name (Ok parameters)) ≡
    with_name source c parameters name run
one_tried source c parameters names.Root run h = for_one source c parameters names.Root run
one_tried source c parameters names.Choose run h = for_one source c parameters names.Choose run
one_tried source c parameters names.All run h = absurd (h refl)
one_tried source c parameters (names.Number n) run h = for_one source c parameters (names.Number n) run
one_tried source c parameters names.Other run h = for_one source c parameters names.Other run

pub command_for_one : (source : List ℕ) (c : Command) (parameters : CommandParameters) (name : Name)
    (kept new : ActionKept) (is_done : Bool) → check_command source c ≡ Ok parameters →
    name_of (text_of source c.term) ≡ name → (name ≡ names.All → ⊥)
    → ((base : Base) → Leads (IsActionRun base) kept new
    (λ run next. with_name source c parameters name run ≡ (next, is_done)))
    → (base : Base) → Leads (IsActionRun base) kept new (λ run next. with_command source c run ≡ (next, is_done))
command_for_one source c parameters name kept new is_done checked is not_all ran base run h =
    let (next, did, stands) = ran base run h in (
      next,
      with_checked source c run name (Ok parameters) checked is ∙
          one_tried source c parameters name run not_all ∙ did,
      stands,
    )

pub command_refused : (source : List ℕ) (c : Command) (kept : EngineState) (progress : Progress)
    (before reported : Answered) (e : ErrorNumber) → check_command source c ≡ Err e →
    reported ≡ after_put before (item_failed c (written_name (text_of source c.term)) e)
    → (base : Base) → Leads (IsActionRun base) (action_kept kept progress before) (action_kept kept progress reported)
    (λ run next. with_command source c run ≡ (next, false))
command_refused source c kept progress before reported e checked put base run h =
    let term = written_name (text_of source c.term) in (
      record run { items = run.items ++ item_failed c term e ∷ [] },
      with_checked source c run (name_of (text_of source c.term)) (Err e) checked refl,
      failed_stands c term kept kept progress before reported e refl put base run h,
    )

-- ## Commands

passed : (source : List ℕ) (c : Command) (run next : ActionState) (is_done : Bool) →
    with_command source c run ≡ (next, is_done) → (c.is_optional || is_done) ≡ true →
    unless_optional c (with_command source c run) ≡ (next, true)
passed source c run next is_done e continues = ap (unless_optional c) e ∙ ap (λ (b : Bool). (next, b)) continues

stopped : (source : List ℕ) (c : Command) (run next : ActionState) (is_done : Bool) →
    with_command source c run ≡ (next, is_done) → (c.is_optional || is_done) ≡ false →
    unless_optional c (with_command source c run) ≡ (next, false)
stopped source c run next is_done e continues = ap (unless_optional c) e ∙ ap (λ (b : Bool). (next, b)) continues

next_done : (source : List ℕ) (cs : List Command) (i : ℕ) (d : Command) (run next : ActionState) → i < length cs →
    unless_optional (get_or cs i d) (with_command source (get_or cs i d) run) ≡ (next, true) →
    with_commands source (drop i cs) run ≡ with_commands source (drop (i + 1) cs) next
unfolding with_commands
next_done source cs i d run next lt e = ap (λ (xs : List Command). with_commands source xs run) (drop_more cs i d lt)
    ∙ ap (continue_with (with_commands source (drop (i + 1) cs))) e

next_failed : (source : List ℕ) (cs : List Command) (i : ℕ) (d : Command) (run next : ActionState) → i < length cs →
    unless_optional (get_or cs i d) (with_command source (get_or cs i d) run) ≡ (next, false) →
    with_commands source (drop i cs) run ≡ (next, false)
unfolding with_commands
next_failed source cs i d run next lt e = ap (λ (xs : List Command). with_commands source xs run)
    (drop_more cs i d lt) ∙ ap (continue_with (with_commands source (drop (i + 1) cs))) e

commands_end : (source : List ℕ) (cs : List Command) (i : ℕ) (run : ActionState) → length cs ≤ i →
    with_commands source (drop i cs) run ≡ (run, true)
unfolding with_commands
commands_end source cs i run le = rw (drop_all i cs le) refl

-- The loop over commands, before command `i`. Each action that the state on entry represents becomes an action that the
-- current state represents.
module _ (source : List ℕ) (cs : List Command) (base : Base) (entered kept : ActionKept) (i : ℕ)
    (inside : Leads (IsActionRun base) entered kept
    (λ run now. with_commands source cs run ≡ with_commands source (drop i cs) now)) where
  pub commands_go_on : (c d : Command) (new : ActionKept) (is_done : Bool) → i < length cs → c ≡ get_or cs i d →
      (c.is_optional || is_done) ≡ true → Leads (IsActionRun base) kept new
      (λ run next. with_command source c run ≡ (next, is_done)) →
      Leads (IsActionRun base) entered new (λ run now. with_commands source cs run ≡
      with_commands source (drop (i + 1) cs) now)
  commands_go_on c d new is_done lt is continues step run h =
      let (now, represents, stands) = inside run h in
      let (next, did, left) = step now stands in (
        next,
        represents ∙ next_done source cs i d now next lt
            (ap (λ (c : Command). unless_optional c (with_command source c now)) (sym is) ∙
            passed source c now next is_done did continues),
        left,
      )

  pub commands_stop : (c d : Command) (new : ActionKept) (is_done : Bool) → i < length cs → c ≡ get_or cs i d →
      (c.is_optional || is_done) ≡ false → Leads (IsActionRun base) kept new
      (λ run next. with_command source c run ≡ (next, is_done)) →
      Leads (IsActionRun base) entered new (λ run next. with_commands source cs run ≡ (next, false))
  commands_stop c d new is_done lt is continues step run h =
      let (now, represents, stands) = inside run h in
      let (next, did, left) = step now stands in (
        next,
        represents ∙ next_failed source cs i d now next lt
            (ap (λ (c : Command). unless_optional c (with_command source c now)) (sym is) ∙
            stopped source c now next is_done did continues),
        left,
      )

  pub commands_finish : length cs ≤ i → Leads (IsActionRun base) entered kept
      (λ run next. with_commands source cs run ≡ (next, true))
  commands_finish le run h =
      let (now, represents, stands) = inside run h in
      (now, represents ∙ commands_end source cs i now le, stands)

-- ## An action

abbrev pub first_progress : Action → Progress
first_progress a = record { target = target_of a.context; made = None }

pub action_refused : (source : List ℕ) (a : Action) (kept : EngineState) (before fault reported : Answered)
    (e : ErrorNumber) → action_fault a ≡ Some e → fault ≡ after_put before (replies.Fault e) →
    reported ≡ after_put fault (replies.Action a.context)
    → (base : Base) → Leads (IsTransaction base) (transaction_kept kept before) (transaction_kept kept reported)
    (λ s next. with_action source a s ≡ (next, false))
unfolding with_action
action_refused source a kept before fault reported e why first last base s h = (
  record { gateway = s.gateway; items = s.items ++ replies.Fault e ∷ replies.Action a.context ∷ [] },
  ap (λ (o : Option ErrorNumber). action_unless o source a s) why,
  record {
    gateway = h.gateway;
    reply = last ∙ put_next base.reply fault (s.items ++ replies.Fault e ∷ []) (replies.Action a.context)
        (first ∙ put_next base.reply before s.items (replies.Fault e) h.reply)
        ∙ ap (after_all base.reply) (append_assoc s.items (replies.Fault e ∷ []) (replies.Action a.context ∷ []));
    work = paid_still base s.items (replies.Fault e ∷ replies.Action a.context ∷ []) kept kept h.work refl;
  },
)

-- The end of an action, given the items that report about its context. The work counter is unchanged.
module _ (base : Base) (before reported closed : Answered) (kept new : EngineState) (run : ActionState)
    (h : before ≡ after_all base.reply run.items) (paid : IsPaid base run.items kept)
    (same : new.sums.work ≡ kept.sums.work) (last : closed ≡ after_put reported (replies.Action (id_of run.target))) where
  close : (w : Gateway) (items : List Item) → StandsFor new w → reported ≡ after_all before items →
      IsTransaction base (transaction_kept new closed) (end_of_action run w items)
  close w items stands put = record {
    gateway = stands;
    reply = last ∙ put_next base.reply reported (run.items ++ items) (replies.Action (id_of run.target))
        (put_more base.reply before reported run.items items h put);
    work = paid_still base (run.items ++ items) (replies.Action (id_of run.target) ∷ []) new new
        (paid_still base run.items items kept new paid same) refl;
  }

  properties_ended : (is_done : Bool) (r : Result (Gateway × List Item) ErrorNumber) →
      ReportsProperties new before reported is_done run.gateway r → (next : ActionsState) ×
      (after_properties run r ≡ (next, is_done)) × IsTransaction base (transaction_kept new closed) next
  properties_ended is_done (Ok p) t = (
    end_of_action run p.0 p.1,
    ap (λ (b : Bool). (end_of_action run p.0 p.1, b)) (sym t.0),
    close p.0 p.1 t.2 t.1,
  )
  properties_ended is_done (Err e) t = (
    end_of_action run run.gateway (replies.Fault e ∷ []),
    ap (λ (b : Bool). (end_of_action run run.gateway (replies.Fault e ∷ []), b)) (sym t.0),
    close run.gateway (replies.Fault e ∷ []) t.2 t.1,
  )

-- An action after its commands were tried.
module _ (source : List ℕ) (a : Action) (old middle : EngineState) (before said : Answered) (progress : Progress)
    (were_done : Bool) (none : action_fault a ≡ None)
    (ran : (base : Base) → Leads (IsActionRun base) (action_kept old (first_progress a) before)
    (action_kept middle progress said) (λ run next. with_commands source a.commands run ≡ (next, were_done))) where
  as_started : (base : Base) (s : ActionsState) → IsTransaction base (transaction_kept old before) s →
      IsActionRun base (action_kept old (first_progress a) before) (action_start a s)
  as_started base s h = record { gateway = h.gateway; target = refl; made = refl; reply = h.reply; work = h.work }

  continues : (s : ActionsState) (run : ActionState) →
      with_commands source a.commands (action_start a s) ≡ (run, were_done) →
      with_action source a s ≡ after_commands source a.properties (run, were_done)
  unfolding with_action
  continues s run did = ap (λ (o : Option ErrorNumber). action_unless o source a s) none ∙
      ap (after_commands source a.properties) did

  -- If a command that is not optional failed, nothing more is executed.
  pub action_stopped : (new : EngineState) (reported closed : Answered) (is_done : Bool) → were_done ≡ false →
      is_done ≡ were_done → new ≡ middle → reported ≡ said →
      closed ≡ after_put reported (replies.Action (id_of progress.target))
      → (base : Base) → Leads (IsTransaction base) (transaction_kept old before) (transaction_kept new closed)
      (λ s next. with_action source a s ≡ (next, is_done))
  action_stopped new reported closed is_done failed done kept said_so last base s h =
      let (run, did, stands) = ran base (action_start a s) (as_started base s h) in (
        end_of_action run run.gateway [],
        continues s run did ∙ ap (λ (b : Bool). after_commands source a.properties (run, b)) failed ∙
            ap (λ (b : Bool). (end_of_action run run.gateway [], b)) (sym (done ∙ failed)),
        close base said reported closed middle new run stands.reply stands.work
            (ap (λ (k : EngineState). k.sums.work) kept) (rw stands.target last) run.gateway []
            (rw kept stands.gateway) said_so,
      )

  -- If all commands that are not optional succeeded, the action ends with the outcome of its properties.
  pub action_finished : (new : EngineState) (reported closed : Answered) (is_done : Bool) → were_done ≡ true →
      ((w : Gateway) → StandsFor middle w → ReportsProperties new said reported is_done w
      (context_outcome source progress.made a.properties w progress.target)) → new.sums.work ≡ middle.sums.work →
      closed ≡ after_put reported (replies.Action (id_of progress.target))
      → (base : Base) → Leads (IsTransaction base) (transaction_kept old before) (transaction_kept new closed)
      (λ s next. with_action source a s ≡ (next, is_done))
  action_finished new reported closed is_done all tells same last base s h =
      let (run, did, stands) = ran base (action_start a s) (as_started base s h) in
      let represents = ap (λ (made : Option ℕ). context_outcome source made a.properties run.gateway run.target) stands.made
      ∙ ap (λ (t : Target). context_outcome source progress.made a.properties run.gateway t) stands.target in
      let told_so = subst (λ (r : Result (Gateway × List Item) ErrorNumber). ReportsProperties new said reported is_done
      run.gateway
      r) (sym represents) (tells run.gateway stands.gateway) in
      let (next, is, left) = properties_ended base said reported closed middle new run stands.reply stands.work same
      (rw stands.target last) is_done (context_outcome source run.made a.properties run.gateway run.target)
      told_so in
      (next, continues s run did ∙ ap (λ (b : Bool). after_commands source a.properties (run, b)) all ∙ is, left)

-- ## Actions

next_whole : (source : List ℕ) (xs : List Action) (i : ℕ) (d : Action) (s next : ActionsState) → i < length xs →
    with_action source (get_or xs i d) s ≡ (next, true) →
    with_actions source (drop i xs) s ≡ with_actions source (drop (i + 1) xs) next
unfolding with_actions
next_whole source xs i d s next lt e = rw (drop_more xs i d lt, e) refl

next_last : (source : List ℕ) (xs : List Action) (i : ℕ) (d : Action) (s next : ActionsState) → i < length xs →
    with_action source (get_or xs i d) s ≡ (next, false) → with_actions source (drop i xs) s ≡ next
unfolding with_actions
next_last source xs i d s next lt e = rw (drop_more xs i d lt, e) refl

actions_end : (source : List ℕ) (xs : List Action) (i : ℕ) (s : ActionsState) → length xs ≤ i →
    with_actions source (drop i xs) s ≡ s
unfolding with_actions
actions_end source xs i s le = rw (drop_all i xs le) refl

module _ (source : List ℕ) (xs : List Action) (base : Base) (entered kept : TransactionKept) (i : ℕ)
    (inside : Leads (IsTransaction base) entered kept
    (λ s now. with_actions source xs s ≡ with_actions source (drop i xs) now)) where
  pub actions_go_on : (a d : Action) (new : TransactionKept) → i < length xs → a ≡ get_or xs i d →
      Leads (IsTransaction base) kept new (λ s next. with_action source a s ≡ (next, true)) →
      Leads (IsTransaction base) entered new (λ s now. with_actions source xs s ≡
      with_actions source (drop (i + 1) xs) now)
  actions_go_on a d new lt is step s h =
      let (now, represents, stands) = inside s h in
      let (next, did, left) = step now stands in (
        next,
        represents ∙ next_whole source xs i d now next lt
            (ap (λ (a : Action). with_action source a now) (sym is) ∙ did),
        left,
      )

  pub actions_stop : (a d : Action) (new : TransactionKept) → i < length xs → a ≡ get_or xs i d →
      Leads (IsTransaction base) kept new (λ s next. with_action source a s ≡ (next, false)) →
      Leads (IsTransaction base) entered new (λ s next. with_actions source xs s ≡ next)
  actions_stop a d new lt is step s h =
      let (now, represents, stands) = inside s h in
      let (next, did, left) = step now stands in (
        next,
        represents ∙ next_last source xs i d now next lt
            (ap (λ (a : Action). with_action source a now) (sym is) ∙ did),
        left,
      )

  pub actions_finish : length xs ≤ i → Leads (IsTransaction base) entered kept
      (λ s next. with_actions source xs s ≡ next)
  actions_finish le s h =
      let (now, represents, stands) = inside s h in
      (now, represents ∙ actions_end source xs i now le, stands)

-- ## A request

abbrev Answers : List ℕ → Request → Answered → Gateway → Gateway → Type 0
Answers source request reported w next = ((replied source request w).gateway ≡ next) ×
    (reported ≡ after_all (new_reply request.number) (replied source request w).items)

module _ (source : List ℕ) (request : Request) (old new : EngineState) (before reported : Answered)
    (begun : before ≡ new_reply request.number)
    (ran : (base : Base) → Leads (IsTransaction base) (transaction_kept old before) (transaction_kept new reported)
    (λ s next. with_actions source request.actions s ≡ next)) where
  abbrev first : Base
  first = record { reply = new_reply request.number; work = old.sums.work }

  abbrev at_first : Gateway → ActionsState
  at_first w = record { gateway = w; items = [] }

  represents : (w : Gateway) → StandsFor old w → (next : ActionsState) ×
      (with_actions source request.actions (at_first w) ≡ next) × IsTransaction first (transaction_kept new reported) next
  represents w h = ran first (at_first w) (record { gateway = h; reply = begun; work = paid_nothing first old refl })

  pub request_ran : Leads StandsFor old new (Answers source request reported)
  request_ran w h =
      let (next, did, stands) = represents w h in (
        next.gateway,
        (
          ap (λ (s : ActionsState). s.gateway) (sym (same_reply source request w) ∙ did),
          stands.reply ∙
              ap (λ (s : ActionsState). after_all (new_reply request.number) s.items)
              (sym did ∙ same_reply source request w),
        ),
        stands.gateway,
      )

  pub request_paid : (w : Gateway) → StandsFor old w →
      RisesAtMost (4 * edits_reported (replied source request w).items) old.sums.work new.sums.work
  request_paid w h =
      let (next, did, stands) = represents w h in
      subst (λ (s : ActionsState). RisesAtMost (4 * edits_reported s.items) old.sums.work new.sums.work)
      (sym did ∙ same_reply source request w) stands.work

-- Running the same request in two gateways that agree outside some terminations.
use Rattle.std.proofs.Common.{◌≡◌, ℕ, Bool, ◌&&◌, ◌||◌, true, false, List, [], ◌∷◌, ◌++◌, map, Option, Some, None, Result, Ok, Err, refl, sym, ap, subst, ◌∙◌, if◌then◌else◌}
use Rattle.std.specs.List.{list_any}
use Rattle.std.specs.Option.{option_map, option_or}
use Rattle.std.proofs.lemmas.List.{map-append}
use Rattle.mg_words.specs.ResultSteps.{◌>>=◌}
use Rattle.mg_words.specs.declared.command_word.CommandWord.{CommandWord}
use Rattle.mg_words.specs.declared.command_word.CommandWord.TheVariants as words
use Rattle.mg_words.specs.declared.error_number.ErrorNumber.{ErrorNumber}
use Rattle.mg_words.specs.declared.stats.Stats.{Stats}
use Rattle.mg_reply.specs.declared.item.Item.{Item}
use Rattle.mg_reply.specs.declared.item.Item.TheVariants as replies
use Rattle.mg_reply.specs.declared.outcome.Outcome.TheVariants.{Failed, Done}
use Rattle.mg_rooms.specs.Outcome.{member}
use Rattle.mg_rooms.specs.Registry as rooms
use Rattle.mg_rooms.specs.Registry.{members_at}
use Rattle.mg_rooms.specs.declared.record.Record.{Record}
use Rattle.mg_rooms.specs.declared.target.Target.{Target}
use Rattle.mg_rooms.specs.declared.target.Target.TheVariants as targets
use Rattle.mg_engine.specs.Apart.{AgreeOutside, but_received}
use Rattle.mg_engine.specs.aids.Agreement.{EndsAlike, SameEditsKeepAgreement, SameStatsButReceived}
use Rattle.mg_engine.specs.Flow.{hears}
use Rattle.mg_engine.specs.Gateway.{Gateway, stats_of}
use Rattle.mg_engine.specs.Outcome.{add, modify, move_to, subtract, apply_triples}
use Rattle.mg_scan.specs.Span.{text_of}
use Rattle.mg_text.specs.declared.command.Command.{Command}
use Rattle.mg_text.specs.declared.context_property.ContextProperty.{ContextProperty}
use Rattle.mg_text.specs.declared.request.Action.{Action}
use Rattle.mg_commands.specs.declared.command_parameters.CommandParameters.{CommandParameters}
use Rattle.mg_commands.specs.declared.name.Name.{Name}
use Rattle.mg_commands.specs.declared.name.Name.TheVariants as names
use Rattle.mg_commands.specs.declared.reply_descriptors.ReplyDescriptors.{ReplyDescriptors}
use Rattle.mg_commands.specs.declared.served.Served.{Served}
use Rattle.mg_commands.specs.aids.Agreement.{RequestsKeepAgreement, item_but_received, parts_but_received}
use Rattle.mg_commands.specs.ContextProperties.{action_fault, audit_items, audit_pair, audit_pairs, context_outcome, is_context_audit, pair_item, triples_of}
use Rattle.mg_commands.specs.Name.{name_of, written_as, written_name}
use Rattle.mg_commands.specs.Outcome.{CommandOutcome, Trial, audit_outcome, audit_root, check_command, check_new_name, names_for, number_in, outcome, reply_media, reply_parts, served_at, trial_of}
use Rattle.mg_commands.specs.aids.Steps.{in_same_world}
use Rattle.mg_commands.specs.aids.Steps.{all_names, audit_termination}
use Rattle.mg_commands.specs.ReplyDescriptors.{descriptors_after, descriptors_before, descriptors_by_audit}
use Rattle.mg_commands.specs.Transaction.{id_of, replied}
use Rattle.mg_commands.specs.aids.ByActions.{by_actions, ActionState, ActionsState, action_start, after_commands, after_outcome, after_properties, end_of_action, continue_with, continue_after_action, unless_optional, with_action, with_actions, with_command, with_commands, with_name, with_names, with_trial}
use Rattle.mg_commands.proofs.FoldLemmas.{shown, same_reply}
use Rattle.mg_commands.specs.aids.Steps.{action_unless}

-- ## Items without the counts of received packets

abbrev reported : List Item → List Item
reported items = map item_but_received items

-- If two pairs of lists are equal except for received packets, so are the two concatenations.
told_more : (xs ys more others : List Item) → reported xs ≡ reported ys → reported more ≡ reported others →
    reported (xs ++ more) ≡ reported (ys ++ others)
told_more xs ys more others h k =
    map-append item_but_received xs more ∙ ap (λ (l : List Item). l ++ reported more) h ∙
    ap (λ (l : List Item). reported ys ++ l) k ∙ sym (map-append item_but_received ys others)

abbrev served_but : Served → Served
served_but s = record s { parts = parts_but_received s.parts }

abbrev fails : {A : Type 0} → ErrorNumber → Result A ErrorNumber
fails e = Err e

module _ (some : List ℕ) (edits : SameEditsKeepAgreement) (same_stats : SameStatsButReceived) where
  -- Either both commands fail with the same error, or both succeed with results equal except for received packets.
  abbrev pub ServedAlike : CommandOutcome → CommandOutcome → Type 0
  ServedAlike (Ok p) (Ok q) = AgreeOutside some p.0 q.0 × (served_but p.1 ≡ served_but q.1)
  ServedAlike (Err e) (Err d) = e ≡ d
  ServedAlike (Ok p) (Err d) = ⊥
  ServedAlike (Err e) (Ok q) = ⊥

  by_step : {C : Type 0} (r : Result C ErrorNumber) (f g : C → CommandOutcome) → ((x : C) → ServedAlike (f x) (g x)) →
      ServedAlike (r >>= f) (r >>= g)
  by_step (Ok x) f g h = h x
  by_step (Err e) f g h = refl

  by_same : {C : Type 0} (r s : Result C ErrorNumber) (f g : C → CommandOutcome) → r ≡ s →
      ((x : C) → ServedAlike (f x) (g x)) → ServedAlike (r >>= f) (s >>= g)
  by_same r s f g same h = subst (λ (k : Result _ ErrorNumber). ServedAlike (r >>= f) (k >>= g)) same (by_step r f g h)

  by_edit : {C : Type 0} (x y : Result (Gateway × C) ErrorNumber) (f g : Gateway × C → CommandOutcome) →
      EndsAlike some x y → ((p q : Gateway × C) → AgreeOutside some p.0 q.0 → p.1 ≡ q.1 → ServedAlike (f p) (g q)) →
      ServedAlike (x >>= f) (y >>= g)
  by_edit (Ok p) (Ok q) f g e h = h p q e.0 e.1
  by_edit (Ok p) (Err d) f g e h = absurd e
  by_edit (Err c) (Ok q) f g e h = absurd e
  by_edit (Err c) (Err d) f g e h = e

  -- ## Parts

  counted : (b : Bool) (o k : Option Stats) → option_map but_received o ≡ option_map but_received k →
      option_map but_received (if b then o else None) ≡ option_map but_received (if b then k else None)
  counted true o k h = h
  counted false o k h = refl

  parts_same : (d : ReplyDescriptors) (r : Record) (a b : Gateway) → AgreeOutside some a b →
      parts_but_received (reply_parts d a r) ≡ parts_but_received (reply_parts d b r)
  parts_same d r a b h = λ i. record {
    media = reply_media d r;
    statistics = counted d.statistics (stats_of a r.number) (stats_of b r.number) (same_stats some a b r.number h) i;
  }

  served_same : (target : Record → Target) (d : ReplyDescriptors) (p q : Gateway × Record) → AgreeOutside some p.0 q.0 →
      p.1 ≡ q.1 → served_but (served_at p.0 (target p.1) p.1 d) ≡ served_but (served_at q.0 (target q.1) q.1 d)
  served_same target d p q h same =
      (λ i. record (served_but (served_at p.0 (target p.1) p.1 d)) { parts = parts_same d p.1 p.0 q.0 h i })
      ∙ ap (λ (r : Record). served_but (served_at q.0 (target r) r d)) same

  -- ## Commands

  new_name_same : (name : Name) (a b : Gateway) → AgreeOutside some a b → check_new_name a name ≡ check_new_name b name
  new_name_same names.Choose a b h = refl
  new_name_same names.Root a b h = refl
  new_name_same names.All a b h = refl
  new_name_same (names.Number n) a b h = λ i. check_new_name (record a { rooms = h.rooms i }) (names.Number n)
  new_name_same names.Other a b h = refl

  abbrev audit_of : Target → CommandParameters → Gateway → Result Record ErrorNumber → CommandOutcome
  audit_of target parameters w r = in_same_world w
      (r >>= (λ r. Ok (served_at w target r (descriptors_by_audit parameters))))

  audit_at : (target : Target) (parameters : CommandParameters) (a b : Gateway) → AgreeOutside some a b →
      (r : Result Record ErrorNumber) → ServedAlike (audit_of target parameters a r) (audit_of target parameters b r)
  audit_at target parameters a b h (Ok r) =
      (h, served_same (λ _. target) (descriptors_by_audit parameters) (a, r) (b, r) h refl)
  audit_at target parameters a b h (Err e) = refl

  audit_by : (target : Target) (parameters : CommandParameters) (a b : Gateway) → AgreeOutside some a b →
      (o : Result ℕ ErrorNumber)
      → ServedAlike (in_same_world a (o >>= (λ n. member a.rooms target n >>=
      (λ r. Ok (served_at a target r (descriptors_by_audit parameters))))))
      (in_same_world b (o >>= (λ n. member b.rooms target n >>=
      (λ r. Ok (served_at b target r (descriptors_by_audit parameters))))))
  audit_by target parameters a b h (Ok n) =
      subst (λ (z : rooms.Registry). ServedAlike (audit_of target parameters a (member a.rooms target n))
      (audit_of target parameters b (member z target n))) h.rooms
      (audit_at target parameters a b h (member a.rooms target n))
  audit_by target parameters a b h (Err e) = refl

  audited : (target : Target) (parameters : CommandParameters) (name : Name) (a b : Gateway) → AgreeOutside some a b →
      ServedAlike (in_same_world a (audit_termination a target name parameters))
      (in_same_world b (audit_termination b target name parameters))
  audited target parameters name a b h = audit_by target parameters a b h (number_in name)

  root_audited : (a b : Gateway) (r : Result Served ErrorNumber) → AgreeOutside some a b →
      ServedAlike (in_same_world a r) (in_same_world b r)
  root_audited a b (Ok s) h = (h, refl)
  root_audited a b (Err e) h = refl

  audit_alike : (target : Target) (name : Name) (parameters : CommandParameters) (a b : Gateway) →
      AgreeOutside some a b → ServedAlike (in_same_world a (audit_outcome a target name parameters))
      (in_same_world b (audit_outcome b target name parameters))
  audit_alike target names.Root parameters a b h = root_audited a b (audit_root target) h
  audit_alike target names.Choose parameters a b h = audited target parameters names.Choose a b h
  audit_alike target names.All parameters a b h = audited target parameters names.All a b h
  audit_alike target (names.Number n) parameters a b h = audited target parameters (names.Number n) a b h
  audit_alike target names.Other parameters a b h = audited target parameters names.Other a b h

  outcome_alike : (word : CommandWord) (target : Target) (name : Name) (parameters : CommandParameters)
      (a b : Gateway) → AgreeOutside some a b →
      ServedAlike (outcome word a target name parameters) (outcome word b target name parameters)
  unfolding outcome
  outcome_alike words.Add target name parameters a b h =
      by_same (check_new_name a name) (check_new_name b name) _ _ (new_name_same name a b h)
      (λ u. by_edit (add a target parameters.settings) (add b target parameters.settings) _ _
      (edits.add some a b target parameters.settings h)
      (λ p q agree same. (
        agree,
        λ i. record (served_same (λ r. targets.Number r.context) (descriptors_after parameters) p q agree same i)
            { made = Some ((same i).number) },
      )))
  outcome_alike words.Modify target name parameters a b h =
      by_step (number_in name) _ _
      (λ n. by_edit (modify a target n parameters.settings) (modify b target n parameters.settings) _ _
      (edits.modify some a b target n parameters.settings h)
      (λ p q agree same. (agree, served_same (λ _. target) (descriptors_after parameters) p q agree same)))
  outcome_alike words.Move target name parameters a b h =
      by_step (number_in name) _ _
      (λ n. by_edit (move_to a target n parameters.settings) (move_to b target n parameters.settings) _ _
      (edits.move_to some a b target n parameters.settings h)
      (λ p q agree same.
      (agree, served_same (λ r. targets.Number r.context) (descriptors_after parameters) p q agree same)))
  outcome_alike words.Subtract target name parameters a b h =
      by_step (number_in name) _ _
      (λ n. by_edit (subtract a target n) (subtract b target n) _ _ (edits.subtract some a b target n h)
      (λ p q agree same.
      (agree, served_same (λ _. target) (descriptors_before parameters) (a, p.1) (b, q.1) h same)))
  outcome_alike words.AuditValue target name parameters a b h = audit_alike target name parameters a b h
  outcome_alike words.AuditCapability target name parameters a b h = refl
  outcome_alike words.Notify target name parameters a b h = refl
  outcome_alike words.ServiceChange target name parameters a b h = refl

  -- ## Actions

  -- Two actions in progress agree.
  record RunsAgree (s t : ActionState) : Type 0 where
    gateway : AgreeOutside some s.gateway t.gateway
    target : s.target ≡ t.target
    made : s.made ≡ t.made
    items : reported s.items ≡ reported t.items

  -- The two actions agree, and both succeeded or both failed.
  record BothRan (x y : ActionState × Bool) : Type 0 where
    run : RunsAgree x.0 y.0
    done : x.1 ≡ y.1

  after_alike : (word : CommandWord) (name : List ℕ) (s t : ActionState) (r k : CommandOutcome) → RunsAgree s t →
      ServedAlike r k → BothRan (after_outcome word name s r) (after_outcome word name t k)
  after_alike word name s t (Ok p) (Ok q) h e = record {
    run = record {
      gateway = e.0;
      target = ap (λ (x : Served). x.target) e.1;
      made = (λ i. option_or (h.made i) ((e.1 i).made));
      items = told_more s.items t.items (replies.Command word p.1.term (Done p.1.parts) ∷ [])
          (replies.Command word q.1.term (Done q.1.parts) ∷ []) h.items
          (ap (λ (x : Served). replies.Command word x.term (Done x.parts) ∷ []) e.1);
    };
    done = refl;
  }
  after_alike word name s t (Err c) (Err d) h e = record {
    run = record {
      gateway = h.gateway;
      target = h.target;
      made = h.made;
      items = told_more s.items t.items (replies.Command word name (Failed c) ∷ [])
          (replies.Command word name (Failed d) ∷ []) h.items
          (ap (λ (x : ErrorNumber). replies.Command word name (Failed x) ∷ []) e);
    };
    done = refl;
  }
  after_alike word name s t (Ok p) (Err d) h e = absurd e
  after_alike word name s t (Err c) (Ok q) h e = absurd e

  name_alike : (source : List ℕ) (c : Command) (parameters : CommandParameters) (name : Name) (s t : ActionState) →
      RunsAgree s t → BothRan (with_name source c parameters name s) (with_name source c parameters name t)
  name_alike source c parameters name s t h =
      after_alike c.word (written_as (text_of source c.term) name) s t
      (outcome c.word s.gateway s.target name parameters) (outcome c.word t.gateway t.target name parameters) h
      (subst (λ (target : Target). ServedAlike (outcome c.word s.gateway s.target name parameters)
      (outcome c.word t.gateway target name parameters)) h.target
      (outcome_alike c.word s.target name parameters s.gateway t.gateway h.gateway))

  names_alike : (source : List ℕ) (c : Command) (parameters : CommandParameters) (xs : List Name) (s t : ActionState)
      → RunsAgree s t → BothRan (with_names source c parameters xs s) (with_names source c parameters xs t)
  unfolding with_names
  names_alike source c parameters [] s t h = record { run = h; done = refl }
  names_alike source c parameters (x ∷ xs) s t h =
      let first = name_alike source c parameters x s t h in
      let rest = names_alike source c parameters xs (with_name source c parameters x s).0
      (with_name source c parameters x t).0 first.run in
      record { run = rest.run; done = λ i. first.done i && rest.done i }

  names_same : (target : Target) (word : CommandWord) (name : Name) (a b : Gateway) → AgreeOutside some a b →
      names_for a target word name ≡ names_for b target word name
  names_same targets.Null word names.All a b h = refl
  names_same targets.New word names.All a b h = refl
  names_same (targets.Number c) word names.All a b h =
      λ i. all_names (record a { rooms = h.rooms i }) (targets.Number c) word
  names_same target word names.Root a b h = refl
  names_same target word names.Choose a b h = refl
  names_same target word (names.Number n) a b h = refl
  names_same target word names.Other a b h = refl

  trials_same : (source : List ℕ) (c : Command) (s t : ActionState) → RunsAgree s t →
      trial_of source s.gateway s.target c ≡ trial_of source t.gateway t.target c
  trials_same source c s t h =
      ap (λ (r : Result (List Name) ErrorNumber). check_command source c >>=
      (λ parameters. r >>= (λ xs. tried parameters xs)))
      (names_same s.target c.word (name_of (text_of source c.term)) s.gateway t.gateway h.gateway)
      ∙ ap (λ (target : Target). trial_of source t.gateway target c) h.target
    where
      tried : CommandParameters → List Name → Result Trial ErrorNumber
      tried parameters xs = Ok (record { parameters = parameters; names = xs })

  trial_alike : (source : List ℕ) (c : Command) (s t : ActionState) (r : Result Trial ErrorNumber) → RunsAgree s t →
      BothRan (with_trial source c s r) (with_trial source c t r)
  trial_alike source c s t (Ok trial) h = names_alike source c trial.parameters trial.names s t h
  trial_alike source c s t (Err e) h = after_alike c.word (written_name (text_of source c.term)) s t (Err e) (Err e) h
      refl

  command_alike : (source : List ℕ) (c : Command) (s t : ActionState) → RunsAgree s t →
      BothRan (with_command source c s) (with_command source c t)
  command_alike source c s t h =
      subst (λ (r : Result Trial ErrorNumber). BothRan (with_command source c s) (with_trial source c t r))
      (trials_same source c s t h) (trial_alike source c s t (trial_of source s.gateway s.target c) h)

  go_on_alike : (rest : ActionState → ActionState × Bool) (x y : ActionState × Bool) → BothRan x y →
      ((s t : ActionState) → RunsAgree s t → BothRan (rest s) (rest t)) → BothRan (continue_with rest x) (continue_with rest y)
  go_on_alike rest (s, true) (t, true) h k = k s t h.run
  go_on_alike rest (s, false) (t, false) h k = h
  go_on_alike rest (s, true) (t, false) h k = absurd (cc h.done)
  go_on_alike rest (s, false) (t, true) h k = absurd (cc h.done)

  unless_alike : (c : Command) (x y : ActionState × Bool) → BothRan x y →
      BothRan (unless_optional c x) (unless_optional c y)
  unless_alike c (s, p) (t, q) h = record { run = h.run; done = ap (λ (b : Bool). c.is_optional || b) h.done }

  commands_alike : (source : List ℕ) (cs : List Command) (s t : ActionState) → RunsAgree s t →
      BothRan (with_commands source cs s) (with_commands source cs t)
  unfolding with_commands
  commands_alike source [] s t h = record { run = h; done = refl }
  commands_alike source (c ∷ cs) s t h =
      go_on_alike (with_commands source cs) (unless_optional c (with_command source c s))
      (unless_optional c (with_command source c t))
      (unless_alike c (with_command source c s) (with_command source c t) (command_alike source c s t h))
      (commands_alike source cs)

  -- ## Properties

  pair_same : (a b : Gateway) (m n : ℕ) → AgreeOutside some a b → audit_pair a m n ≡ audit_pair b m n
  pair_same a b m n h = λ i.
      let w : Gateway = record a { rooms = h.rooms i; edits = h.edits i } in
      pair_item (hears w m n) (hears w n m) m n

  pairs_of_same : (a b : Gateway) (m : ℕ) (ns : List ℕ) → AgreeOutside some a b →
      map (audit_pair a m) ns ≡ map (audit_pair b m) ns
  pairs_of_same a b m [] h = refl
  pairs_of_same a b m (n ∷ ns) h = λ i. pair_same a b m n h i ∷ pairs_of_same a b m ns h i

  pairs_same : (a b : Gateway) (ns : List ℕ) → AgreeOutside some a b → audit_pairs a ns ≡ audit_pairs b ns
  unfolding audit_pairs
  pairs_same a b [] h = refl
  pairs_same a b (n ∷ ns) h = λ i. pairs_of_same a b n ns h i ++ pairs_same a b ns h i

  audit_if : (asked : Bool) (a b : Gateway) (c : ℕ) → AgreeOutside some a b →
      (if asked then audit_pairs a (members_at a.rooms c) else []) ≡
      (if asked then audit_pairs b (members_at b.rooms c) else [])
  audit_if true a b c h = pairs_same a b (members_at a.rooms c) h ∙
      ap (λ (z : rooms.Registry). audit_pairs b (members_at z c)) h.rooms
  audit_if false a b c h = refl

  -- Either both operations fail with the same error, or both report the same about a context, and the gateways agree.
  abbrev ToldAlike : Result (Gateway × List Item) ErrorNumber → Result (Gateway × List Item) ErrorNumber → Type 0
  ToldAlike x y = EndsAlike some x y

  triples_told : (ps : List ContextProperty) (x y : Result (Gateway × ℕ) ErrorNumber) → EndsAlike some x y →
      ToldAlike (x >>= (λ p. Ok (p.0, audit_items ps p.0 p.1))) (y >>= (λ p. Ok (p.0, audit_items ps p.0 p.1)))
  triples_told ps (Ok p) (Ok q) e =
      (e.0, audit_if (list_any is_context_audit ps) p.0 q.0 p.1 e.0 ∙ ap (λ (c : ℕ). audit_items ps q.0 c) e.1)
  triples_told ps (Ok p) (Err d) e = absurd e
  triples_told ps (Err c) (Ok q) e = absurd e
  triples_told ps (Err c) (Err d) e = e

  properties_alike : (source : List ℕ) (made : Option ℕ) (ps : List ContextProperty) (target : Target) (a b : Gateway)
      → AgreeOutside some a b → ToldAlike (context_outcome source made ps a target)
      (context_outcome source made ps b target)
  properties_alike source made [] target a b h = (h, refl)
  properties_alike source made (x ∷ ps) target a b h =
      let xs = triples_of source made (x ∷ ps) in
      triples_told (x ∷ ps) (apply_triples a target xs) (apply_triples b target xs) (edits.triples some a b target xs h)

  -- ## Transactions

  record RequestsAgree (s t : ActionsState) : Type 0 where
    gateway : AgreeOutside some s.gateway t.gateway
    items : reported s.items ≡ reported t.items

  record BothEnded (x y : ActionsState × Bool) : Type 0 where
    state : RequestsAgree x.0 y.0
    done : x.1 ≡ y.1

  ended_alike : (s t : ActionState) (a b : Gateway) (xs ys : List Item) → RunsAgree s t → AgreeOutside some a b →
      xs ≡ ys → RequestsAgree (end_of_action s a xs) (end_of_action t b ys)
  ended_alike s t a b xs ys h k same = record {
    gateway = k;
    items = told_more (s.items ++ xs) (t.items ++ ys) (replies.Action (id_of s.target) ∷ [])
        (replies.Action (id_of t.target) ∷ []) (told_more s.items t.items xs ys h.items (ap reported same))
        (ap (λ (target : Target). replies.Action (id_of target) ∷ []) h.target);
  }

  told_alike : (s t : ActionState) (r k : Result (Gateway × List Item) ErrorNumber) → RunsAgree s t → ToldAlike r k →
      BothEnded (after_properties s r) (after_properties t k)
  told_alike s t (Ok p) (Ok q) h e = record { state = ended_alike s t p.0 q.0 p.1 q.1 h e.0 e.1; done = refl }
  told_alike s t (Err c) (Err d) h e = record {
    state =
        ended_alike s t s.gateway t.gateway (replies.Fault c ∷ []) (replies.Fault d ∷ []) h h.gateway
        (ap (λ (x : ErrorNumber). replies.Fault x ∷ []) e);
    done = refl;
  }
  told_alike s t (Ok p) (Err d) h e = absurd e
  told_alike s t (Err c) (Ok q) h e = absurd e

  commands_ended : (source : List ℕ) (ps : List ContextProperty) (x y : ActionState × Bool) → BothRan x y →
      BothEnded (after_commands source ps x) (after_commands source ps y)
  commands_ended source ps (s, true) (t, true) h =
      told_alike s t (context_outcome source s.made ps s.gateway s.target)
      (context_outcome source t.made ps t.gateway t.target) h.run
      (subst (λ (made : Option ℕ). ToldAlike (context_outcome source s.made ps s.gateway s.target)
      (context_outcome source made ps t.gateway t.target)) h.run.made
      (subst (λ (target : Target). ToldAlike (context_outcome source s.made ps s.gateway s.target)
      (context_outcome source s.made ps t.gateway target)) h.run.target
      (properties_alike source s.made ps s.target s.gateway t.gateway h.run.gateway)))
  commands_ended source ps (s, false) (t, false) h =
      record { state = ended_alike s t s.gateway t.gateway [] [] h.run h.run.gateway refl; done = refl }
  commands_ended source ps (s, true) (t, false) h = absurd (cc h.done)
  commands_ended source ps (s, false) (t, true) h = absurd (cc h.done)

  action_alike : (o : Option ErrorNumber) (source : List ℕ) (a : Action) (s t : ActionsState) →
      RequestsAgree s t → BothEnded (action_unless o source a s) (action_unless o source a t)
  action_alike (Some e) source a s t h = record {
    state = record {
      gateway = h.gateway;
      items =
          told_more s.items t.items (replies.Fault e ∷ replies.Action a.context ∷ [])
          (replies.Fault e ∷ replies.Action a.context ∷ []) h.items refl;
    };
    done = refl;
  }
  action_alike None source a s t h =
      commands_ended source a.properties (with_commands source a.commands (action_start a s))
      (with_commands source a.commands (action_start a t))
      (commands_alike source a.commands (action_start a s) (action_start a t)
      (record { gateway = h.gateway; target = refl; made = refl; items = h.items }))

  rest_alike : (rest : ActionsState → ActionsState) (x y : ActionsState × Bool) → BothEnded x y →
      ((s t : ActionsState) → RequestsAgree s t → RequestsAgree (rest s) (rest t)) →
      RequestsAgree (continue_after_action rest x) (continue_after_action rest y)
  rest_alike rest (s, true) (t, true) h k = k s t h.state
  rest_alike rest (s, false) (t, false) h k = h.state
  rest_alike rest (s, true) (t, false) h k = absurd (cc h.done)
  rest_alike rest (s, false) (t, true) h k = absurd (cc h.done)

  actions_alike : (source : List ℕ) (xs : List Action) (s t : ActionsState) → RequestsAgree s t →
      RequestsAgree (with_actions source xs s) (with_actions source xs t)
  unfolding with_actions with_action
  actions_alike source [] s t h = h
  actions_alike source (a ∷ xs) s t h =
      rest_alike (with_actions source xs) (with_action source a s) (with_action source a t)
      (action_alike (action_fault a) source a s t h) (actions_alike source xs)

pub requests_keep : SameEditsKeepAgreement → SameStatsButReceived → RequestsKeepAgreement
requests_keep edits stats some source request a b h =
    let after = actions_alike some edits stats source request.actions (record { gateway = a; items = [] })
    (record { gateway = b; items = [] }) (record { gateway = h; items = refl }) in
    let first = subst (λ (s : ActionsState). RequestsAgree some edits stats s (by_actions source request b))
    (same_reply source request a) after in
    let both = subst (λ (t : ActionsState). RequestsAgree some edits stats (shown (replied source request a)) t)
    (same_reply source request b) first in
    (both.gateway, both.items)

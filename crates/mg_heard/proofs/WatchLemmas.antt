-- The state of a watch, note by note.
use Rattle.std.proofs.Common.{◌≡◌, ◌≢◌, ℕ, ◌+◌, suc, zero, Bool, true, false, List, [], ◌∷◌, ◌++◌, ◌<◌, ◌≤◌, cond, drop, get_or, length, map, replicate, Option, Some, None, refl, sym, ap, subst, ◌∙◌, arith, length-append, inl, inr}
use Rattle.std.specs.Prelude.{reverse, is_some, IsSomeAnd}
use Rattle.std.specs.List.{AllZip}
use Rattle.std.specs.Option.{option_map, option_map_or, option_or}
use Rattle.std.proofs.lemmas.Bool.{true≢false}
use Rattle.std.proofs.lemmas.List.{append-nil, at_drop_more, drop_all, length-replicate, length-reverse, reverse-append}
use Rattle.mg_core.specs.declared.event.Event.{Event}
use Rattle.mg_core.specs.declared.event.Event.TheVariants.{Tick}
use Rattle.mg_core.specs.declared.state.CoreState.{CoreState}
use Rattle.mg_core.specs.Counting.{is_control}
use Rattle.mg_core.specs.Follow.{HasRun, ticks_of}
use Rattle.mg_core.specs.aids.Following.{GoesOn, IsFollowedUntil}
use Rattle.mg_core.specs.Note.{Note, Comment, Happened, events_in}
use Rattle.mg_core.specs.Step.{Run, Sent}
use Rattle.mg_core.specs.World.{World}
use Rattle.mg_core.specs.aids.Stands.{StandsFor}
use Rattle.mg_heard.specs.declared.moment.Moment.{Moment}
use Rattle.mg_heard.specs.declared.missing.Missing.{Missing}
use Rattle.mg_heard.specs.declared.open_flow.OpenFlow.{OpenFlow}
use Rattle.mg_heard.specs.declared.open_interval.OpenInterval.{OpenInterval}
use Rattle.mg_heard.specs.declared.rule.Rule.{Rule}
use Rattle.mg_heard.specs.declared.violation.Violation.{Violation}
use Rattle.mg_heard.specs.declared.watch.Watch.{Watch}
use Rattle.mg_heard.specs.aids.Changes.{OnlyControlChangesFlows}
use Rattle.mg_heard.specs.aids.Calling.{AreMissing}
use Rattle.mg_heard.specs.Moments.{AreMoments}
use Rattle.mg_heard.specs.Never.{IsKept, IsWatched, first_forbidden, is_forbidden, without_date}
use Rattle.mg_heard.specs.OpenFlows.{open_flows}
use Rattle.mg_heard.specs.aids.Opening.{beginning_at, flows_of}
use Rattle.mg_heard.specs.aids.Watching.{KeepsRules, forbidden_at, forbidden_in}
use Rattle.mg_heard.proofs.KeepingLemmas.{events_in_both, events_with_ticks, extends, one_moment, split}
use Rattle.mg_heard.proofs.KeptTickLemmas.{back_to_front, same_reversed, tick_moments}
use Rattle.mg_heard.proofs.MomentLemmas.{OneOutcome}

abbrev Found : Type 0
Found = Option (ℕ × OpenFlow)

abbrev tick_of : Found → ℕ
tick_of None = 0
tick_of (Some (tick, x)) = tick

zero_plus : (k : ℕ) → 0 + k ≡ k
zero_plus k = omega arith

-- ## The first violation in moments

or_later : (from : ℕ) (o : Option OpenFlow) (a b : Found) →
    option_map_or (λ x. Some (from, x)) o (option_or a b) ≡ option_or (option_map_or (λ x. Some (from, x)) o a) b
or_later from None a b = refl
or_later from (Some x) a b = refl

first_both : (rules : List Rule) (from : ℕ) (xs ys : List (List OpenFlow)) →
    first_forbidden rules from (xs ++ ys) ≡
    option_or (first_forbidden rules from xs) (first_forbidden rules (from + length xs) ys)
first_both rules from [] ys = ap (λ n. first_forbidden rules n ys) (omega arith)
first_both rules from (x ∷ xs) ys =
    let more : from + 1 + length xs ≡ from + length (x ∷ xs) = omega arith in
    ap (λ (r : Found). option_map_or (λ f. Some (from, f)) (forbidden_in rules x) r) (first_both rules (from + 1) xs ys
    ∙ ap (λ n. option_or (first_forbidden rules (from + 1) xs) (first_forbidden rules n ys)) more)
    ∙ or_later from (forbidden_in rules x) (first_forbidden rules (from + 1) xs)
    (first_forbidden rules (from + length (x ∷ xs)) ys)

none_repeated : (rules : List Rule) (from n : ℕ) (flows : List OpenFlow) → forbidden_in rules flows ≡ None →
    first_forbidden rules from (replicate n flows) ≡ None
none_repeated rules from zero flows none = refl
none_repeated rules from (suc n) flows none =
    ap (λ (o : Option OpenFlow). option_map_or (λ f. Some (from, f)) o (first_forbidden rules (from + 1) (replicate n flows))) none
    ∙ none_repeated rules (from + 1) n flows none

repeated_at : (rules : List Rule) (from n : ℕ) (flows : List OpenFlow) (o : Option OpenFlow) →
    forbidden_in rules flows ≡ o →
    option_map_or (λ f. Some (from, f)) o (first_forbidden rules (from + 1) (replicate n flows)) ≡
    option_map (λ f. (from, f)) o
repeated_at rules from n flows None is = none_repeated rules (from + 1) n flows is
repeated_at rules from n flows (Some x) is = refl

first_repeated : (rules : List Rule) (from n : ℕ) (flows : List OpenFlow) →
    first_forbidden rules from (replicate (suc n) flows) ≡ forbidden_at from rules flows
first_repeated rules from n flows = repeated_at rules from n flows (forbidden_in rules flows) refl

within_at : (rules : List Rule) (from tick : ℕ) (x : OpenFlow) (xs : List (List OpenFlow)) (o : Option OpenFlow) →
    option_map_or (λ f. Some (from, f)) o (first_forbidden rules (from + 1) xs) ≡ Some (tick, x) →
    (first_forbidden rules (from + 1) xs ≡ Some (tick, x) → tick < from + 1 + length xs) →
    tick < from + suc (length xs)
within_at rules from tick x xs None is later = let lt = later is in omega arith
within_at rules from tick x xs (Some y) is later = let same : from ≡ tick = ap tick_of is in omega arith

first_within : (rules : List Rule) (from tick : ℕ) (x : OpenFlow) (xs : List (List OpenFlow)) →
    first_forbidden rules from xs ≡ Some (tick, x) → tick < from + length xs
first_within rules from tick x [] is = absurd (cc is)
first_within rules from tick x (flows ∷ xs) is =
    within_at rules from tick x xs (forbidden_in rules flows) is (λ e. first_within rules (from + 1) tick x xs e)

-- ## Violations found before or now

abbrev seen : Option Violation → Found
seen o = option_map without_date o

-- The tick matters only while a watch has no violation.
at_tick : (old : Option Violation) (tick k : ℕ) (rules : List Rule) (flows : List OpenFlow) → (old ≡ None → tick ≡ k) →
    option_or (seen old) (forbidden_at tick rules flows) ≡ option_or (seen old) (forbidden_at k rules flows)
at_tick None tick k rules flows same = ap (λ n. forbidden_at n rules flows) (same refl)
at_tick (Some v) tick k rules flows same = refl

none_before : (old new : Option Violation) (tick : ℕ) (o : Option OpenFlow) →
    seen new ≡ option_or (seen old) (option_map (λ x. (tick, x)) o) → new ≡ None → (old ≡ None) × (o ≡ None)
none_before None None tick None is none = (refl, refl)
none_before None None tick (Some x) is none = absurd (cc is)
none_before (Some v) None tick o is none = absurd (cc is)
none_before old (Some v) tick o is none = absurd (cc none)

-- ## Notes

pub watch_starts : (rules : List Rule) (base : World) (tick : ℕ) (is_changed : Bool) (violation : Option Violation) →
    tick ≡ 0 → is_changed ≡ true → violation ≡ None → KeepsRules rules base [] tick is_changed violation
watch_starts rules base tick is_changed violation zero_is changed none = record {
  past = [];
  now = open_flows base.gateway;
  are = refl;
  first = ap seen none;
  count = λ e. zero_is;
  same = λ e f. absurd (true≢false (sym changed ∙ e));
}

pub watches_comment : (rules : List Rule) (base : World) (notes : List Note) (line : List ℕ) (tick next : ℕ)
    (is_changed : Bool) (violation : Option Violation) → next ≡ tick →
    KeepsRules rules base notes tick is_changed violation →
    KeepsRules rules base (notes ++ Comment line ∷ []) next is_changed violation
watches_comment rules base notes line tick next is_changed violation e h = record {
  past = h.past;
  now = h.now;
  are = subst (λ (l : List Event). AreMoments base l (reverse (h.now ∷ h.past)))
      (sym (events_in_both notes (Comment line ∷ []) ∙ append-nil (events_in notes))) h.are;
  first = h.first;
  count = λ none. e ∙ h.count none;
  same = h.same;
}

pub watches_datagram : OneOutcome → OnlyControlChangesFlows → (rules : List Rule) (base : World) (notes : List Note)
    (event : Event) (tick next : ℕ) (is_changed will_change : Bool) (violation : Option Violation) (state : CoreState) →
    next ≡ tick → event ≢ Tick →
    (will_change ≡ false → (is_control event ≡ false) × (is_changed ≡ false)) →
    HasRun base (notes ++ Happened event ∷ []) state → KeepsRules rules base notes tick is_changed violation →
    KeepsRules rules base (notes ++ Happened event ∷ []) next will_change violation
watches_datagram one only rules base notes event tick next is_changed will_change violation state same not changes (sent, w, (run, stands)) h =
    let all = events_in_both notes (Happened event ∷ []) in
    let s = split base w (events_in notes) event sent
    (subst (λ (l : List Event). Run base l sent w) all run) in
    let e = extends one base s.mid (events_in notes) (event ∷ []) s.before h.now h.past
    (open_flows w.gateway ∷ []) s.run h.are (one_moment s.mid w event s.sent not s.step) in
    record {
      past = h.past;
      now = open_flows w.gateway;
      are = subst (λ (l : List Event). AreMoments base l (reverse (open_flows w.gateway ∷ h.past))) (sym all)
          (subst (λ (l : List (List OpenFlow)). AreMoments base (events_in notes ++ event ∷ []) l)
          (sym (reverse-append (open_flows w.gateway ∷ []) h.past)) e.are);
      first = h.first;
      count = λ none. same ∙ h.count none;
      same = λ k none. let (speech, before) = changes k in
          ap (forbidden_in rules) (only s.mid w event s.sent speech s.step ∙ sym e.is) ∙ h.same before none;
    }

-- The open flows in `KeepsRules` are those of the world after the notes.
pub watched_now : OneOutcome → (rules : List Rule) (base : World) (notes : List Note) (tick : ℕ) (is_changed : Bool)
    (violation : Option Violation) (sent : List Sent) (w : World) → Run base (events_in notes) sent w →
    (h : KeepsRules rules base notes tick is_changed violation) → h.now ≡ open_flows w.gateway
watched_now one rules base notes tick is_changed violation sent w run h =
    (extends one base w (events_in notes) [] sent h.now h.past (open_flows w.gateway ∷ []) run h.are refl).is

-- After the rules are compared with the open flows, the watch has the first violation up to this moment.
pub compared : OneOutcome → (rules : List Rule) (base : World) (notes : List Note) (tick : ℕ) (is_changed : Bool)
    (old new : Option Violation) (sent : List Sent) (w : World) (others : List Rule) → others ≡ rules →
    Run base (events_in notes) sent w → KeepsRules rules base notes tick is_changed old →
    ((is_changed ≡ false → old ≡ None → forbidden_in others (open_flows w.gateway) ≡ None) →
    seen new ≡ option_or (seen old) (forbidden_at tick others (open_flows w.gateway))) →
    seen new ≡ option_or (seen old) (forbidden_at tick rules (open_flows w.gateway))
compared one rules base notes tick is_changed old new sent w others same run h found =
    let now = watched_now one rules base notes tick is_changed old sent w run h in
    found (λ e none. ap (λ (l : List Rule). forbidden_in l (open_flows w.gateway)) same
    ∙ ap (forbidden_in rules) (sym now) ∙ h.same e none)
    ∙ ap (λ (l : List Rule). option_or (seen old) (forbidden_at tick l (open_flows w.gateway))) same

-- More moments with the same flows don't change the first violation that was found.
first_more : (rules : List Rule) (old new : Option Violation) (tick n : ℕ) (past : List (List OpenFlow))
    (flows : List OpenFlow) → seen old ≡ first_forbidden rules 0 (reverse past) → (old ≡ None → tick ≡ length past) →
    seen new ≡ option_or (seen old) (forbidden_at tick rules flows) →
    seen new ≡ first_forbidden rules 0 (reverse past ++ replicate (suc n) flows)
first_more rules old new tick n past flows first count is =
    is ∙ at_tick old tick (length (reverse past)) rules flows (λ none. count none ∙ sym (length-reverse past))
    ∙ ap (λ (r : Found). option_or r (forbidden_at (length (reverse past)) rules flows)) first
    ∙ ap (λ (r : Found). option_or (first_forbidden rules 0 (reverse past)) r)
    (sym (first_repeated rules (length (reverse past)) n flows))
    ∙ ap (λ (k : ℕ). option_or (first_forbidden rules 0 (reverse past)) (first_forbidden rules k (replicate (suc n) flows)))
    (sym (zero_plus (length (reverse past))))
    ∙ sym (first_both rules 0 (reverse past) (replicate (suc n) flows))

watches_ticks : OneOutcome → OnlyControlChangesFlows → (rules : List Rule) (base : World) (notes : List Note)
    (tick next n : ℕ) (is_changed will_change : Bool) (old new : Option Violation) (sent : List Sent) (w : World) →
    (new ≡ None → next ≡ tick + suc n) → Run base (events_in notes) sent w →
    KeepsRules rules base notes tick is_changed old →
    seen new ≡ option_or (seen old) (forbidden_at tick rules (open_flows w.gateway)) →
    KeepsRules rules base (notes ++ ticks_of (suc n)) next will_change new
watches_ticks one only rules base notes tick next n is_changed will_change old new sent w sum run h is =
    let flows = open_flows w.gateway in
    let e = extends one base w (events_in notes) (replicate (suc n) Tick) sent h.now h.past
    (replicate (suc n) flows ++ flows ∷ []) run h.are (tick_moments only (suc n) w flows refl) in
    let back : reverse (replicate (suc n) flows ++ h.past) ≡ reverse h.past ++ replicate (suc n) flows =
    reverse-append (replicate (suc n) flows) h.past
    ∙ ap (λ (l : List (List OpenFlow)). reverse h.past ++ l) (same_reversed (suc n) flows) in
    record {
      past = replicate (suc n) flows ++ h.past;
      now = flows;
      are = subst (λ (l : List Event). AreMoments base l (reverse (flows ∷ (replicate (suc n) flows ++ h.past))))
          (sym (events_with_ticks notes (suc n)))
          (subst (λ (l : List (List OpenFlow)). AreMoments base (events_in notes ++ replicate (suc n) Tick) l)
          (back_to_front (suc n) flows h.past) e.are);
      first = first_more rules old new tick n h.past flows h.first h.count is
          ∙ ap (λ (l : List (List OpenFlow)). first_forbidden rules 0 l) (sym back);
      count = λ none.
          let k = h.count (none_before old new tick (forbidden_in rules flows) is none).0 in
          let s = sum none in
          omega (arith, length-append (replicate (suc n) flows) h.past, length-replicate (suc n) flows);
      same = λ k none. (none_before old new tick (forbidden_in rules flows) is none).1;
    }

pub watches_some_ticks : OneOutcome → OnlyControlChangesFlows → (rules : List Rule) (base : World) (notes : List Note)
    (tick next count : ℕ) (is_changed will_change : Bool) (old new : Option Violation) (sent : List Sent) (w : World) →
    count ≢ 0 → (new ≡ None → next ≡ tick + count) → Run base (events_in notes) sent w →
    KeepsRules rules base notes tick is_changed old →
    seen new ≡ option_or (seen old) (forbidden_at tick rules (open_flows w.gateway)) →
    KeepsRules rules base (notes ++ ticks_of count) next will_change new
watches_some_ticks one only rules base notes tick next zero is_changed will_change old new sent w some sum run h is =
    absurd (some refl)
watches_some_ticks one only rules base notes tick next (suc n) is_changed will_change old new sent w some sum run h is =
    watches_ticks one only rules base notes tick next n is_changed will_change old new sent w sum run h is

pub watches_no_tick : (rules : List Rule) (base : World) (notes : List Note) (tick count : ℕ) (is_changed : Bool)
    (violation : Option Violation) → count ≡ 0 → KeepsRules rules base notes tick is_changed violation →
    KeepsRules rules base (notes ++ ticks_of count) tick is_changed violation
watches_no_tick rules base notes tick count is_changed violation none h =
    subst (λ (l : List Note). KeepsRules rules base l tick is_changed violation)
    (sym (append-nil notes) ∙ ap (λ (n : ℕ). notes ++ ticks_of n) (sym none)) h

-- ## The end of a script

-- If a violation was found before, it remains the first violation, and its tick is before `k`.
found_before : (old new : Option Violation) (later : Found) (k : ℕ) → is_some old ≡ true →
    seen new ≡ option_or (seen old) later → ((tick : ℕ) (x : OpenFlow) → seen old ≡ Some (tick, x) → tick < k) →
    IsSomeAnd new (λ v. v.at.tick + 1 < suc k)
found_before None new later k some is within = absurd (true≢false (sym some))
found_before (Some v) None later k some is within = absurd (cc is)
found_before (Some v) (Some u) later k some is within =
    let same : u.at.tick ≡ v.at.tick = ap tick_of is in
    let lt = within v.at.tick v.flow refl in
    omega arith

was_some : (is_done ended : Bool) → ended ≡ false → (is_done ≡ false → ended ≡ true) → is_done ≡ true
was_some true ended left until = refl
was_some false ended left until = absurd (true≢false (sym (until refl) ∙ left))

-- The watch has followed these notes.
abbrev pub Watches : List Rule → World → Watch → List Note → Type 0
Watches rules base w notes =
    (w.rules.now ≡ rules) × KeepsRules rules base notes w.clock.ticks w.is_changed w.violation

nothing_found : (o : Option Violation) → is_some o ≡ false → None ≡ seen o
nothing_found None none = refl
nothing_found (Some v) none = absurd (true≢false none)

is_kept : {F : Type 0} (view : F → Watch) (Also : F → List Note → Type 0) (rules : List Rule) (base : World)
    (text : List ℕ) → GoesOn (λ (f : F). is_some (view f).violation)
    (λ (f : F) (notes : List Note). Watches rules base (view f) notes × Also f notes) text → IsKept rules base text
is_kept view Also rules base text g =
    let k = g.follows.0.1 in
    record {
      notes = g.notes;
      are = g.are;
      before = reverse k.past;
      now = k.now;
      are_moments = subst (λ (l : List (List OpenFlow)). AreMoments base (events_in g.notes) l)
          (reverse-append (k.now ∷ []) k.past) k.are;
      none = sym (nothing_found (view g.follower).violation g.undone ∙ k.first);
    }

-- A script was watched if it was followed by a follower that contains a watch and also knows who is missing.
pub is_watched : {F : Type 0} (last : F) (view : F → Watch) (Also : F → List Note → Type 0) → OneOutcome →
    (rules : List Rule) (base : World) (input rest : Option (List ℕ)) (state : CoreState) (new : Option Violation)
    (missing : List Missing) → IsFollowedUntil base input rest state (λ (f : F). is_some (view f).violation)
    (λ (f : F) (notes : List Note). Watches rules base (view f) notes × Also f notes) last →
    ((w : World) → StandsFor state w →
    ((view last).is_changed ≡ false → (view last).violation ≡ None →
    forbidden_in (view last).rules.now (open_flows w.gateway) ≡ None) →
    seen new ≡ option_or (seen (view last).violation)
    (forbidden_at (view last).clock.ticks (view last).rules.now (open_flows w.gateway))) →
    ((notes : List Note) → Also last notes →
    AllZip (λ rule m. AreMissing base (events_in notes) rule.talker rule.listener m) rules missing) →
    IsWatched rules base input rest new missing
is_watched last_one view Also one rules base input rest state new missing h compares absent =
    let last = view last_one in
    let (sent, w, (run, stands)) = h.run in
    let (same, k) = h.follows.0 in
    let tick = last.clock.ticks in
    let old = last.violation in
    let now = watched_now one rules base h.notes tick last.is_changed old sent w run k in
    let is = compared one rules base h.notes tick last.is_changed old new sent w last.rules.now same run k
    (compares w stands) in
    let all : reverse (k.now ∷ k.past) ≡ reverse k.past ++ replicate 1 (open_flows w.gateway) =
    reverse-append (k.now ∷ []) k.past ∙ ap (λ (l : List OpenFlow). reverse k.past ++ l ∷ []) now in
    record {
      front = h.front;
      piece = h.piece;
      size = h.size;
      prompt = elim h.goes_on [ inl none ↦ inl none | inr on ↦ inr (is_kept view Also rules base h.front on) ];
      ended = h.ended;
      read = h.read;
      notes = h.notes;
      are = h.are;
      moments = reverse (k.now ∷ k.past);
      are_moments = k.are;
      first = first_more rules old new tick 0 k.past (open_flows w.gateway) k.first k.count is
          ∙ ap (λ (l : List (List OpenFlow)). first_forbidden rules 0 l) (sym all);
      missing_are = absent h.notes h.follows.1;
      before_tick = λ left. subst (λ (n : ℕ). IsSomeAnd new (λ v. v.at.tick + 1 < n)) (sym (length-reverse (k.now ∷ k.past)))
          (found_before old new (forbidden_at tick rules (open_flows w.gateway)) (length k.past)
          (was_some (is_some old) h.ended left h.until) is
          (λ t x e.
          let within = first_within rules 0 t x (reverse k.past) (sym k.first ∙ e) in
          omega (arith, within, length-reverse k.past)));
    }

-- ## Flows among intervals

pub not_this : (rules : List Rule) (xs : List OpenInterval) (i : ℕ) (d : OpenInterval) → i < length xs →
    is_forbidden rules (get_or xs i d).flow ≡ false →
    forbidden_in rules (flows_of (drop i xs)) ≡ forbidden_in rules (flows_of (drop (i + 1) xs))
not_this rules xs i d within apart =
    at_drop_more (λ rest. forbidden_in rules (flows_of rest)) xs i d within
    ∙ ap (λ (b : Bool). cond b (Some (get_or xs i d).flow) (forbidden_in rules (flows_of (drop (i + 1) xs)))) apart

pub this_one : (rules : List Rule) (xs : List OpenInterval) (i : ℕ) (d : OpenInterval) → i < length xs →
    is_forbidden rules (get_or xs i d).flow ≡ true →
    forbidden_in rules (flows_of (drop i xs)) ≡ Some (get_or xs i d).flow
this_one rules xs i d within this =
    at_drop_more (λ rest. forbidden_in rules (flows_of rest)) xs i d within
    ∙ ap (λ (b : Bool). cond b (Some (get_or xs i d).flow) (forbidden_in rules (flows_of (drop (i + 1) xs)))) this

pub none_left : (rules : List Rule) (xs : List OpenInterval) (i : ℕ) → length xs ≤ i →
    forbidden_in rules (flows_of (drop i xs)) ≡ None
none_left rules xs i all = ap (λ rest. forbidden_in rules (flows_of rest)) (drop_all i xs all)

begun_flows : (at : Moment) (flows : List OpenFlow) → flows_of (map (beginning_at at) flows) ≡ flows
begun_flows at [] = refl
begun_flows at (x ∷ xs) = ap (λ (l : List OpenFlow). x ∷ l) (begun_flows at xs)

-- Searching the stored intervals finds the first forbidden flow.
pub forbidden_stored : (rules : List Rule) (at : Moment) (flows : List OpenFlow) (stored shown : List OpenInterval)
    (r : Option OpenFlow) → stored ≡ map (beginning_at at) flows → shown ≡ stored →
    r ≡ forbidden_in rules (flows_of shown) → option_map (λ x. (at.tick, x)) r ≡ forbidden_at at.tick rules flows
forbidden_stored rules at flows stored shown r is same found =
    ap (λ (o : Option OpenFlow). option_map (λ x. (at.tick, x)) o)
    (found ∙ ap (λ (l : List OpenInterval). forbidden_in rules (flows_of l)) (same ∙ is)
    ∙ ap (forbidden_in rules) (begun_flows at flows))

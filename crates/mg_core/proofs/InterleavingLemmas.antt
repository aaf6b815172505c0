-- Two lists of events that are the same to each port, in different orders.
use Rattle.std.proofs.Common.{◌≡◌, ◌≢◌, ℕ, zero, suc, ◌+◌, eqb, not, ◌&&◌, Bool, true, false, List, [], ◌∷◌, ◌++◌, refl, sym, ap, subst, ◌∙◌}
use Rattle.std.specs.List.{list_all}
use Rattle.std.proofs.lemmas.Bool.{eqb-true, eq-eqb, and_parts}
use Rattle.std.proofs.lemmas.List.Elements.{filter-append}
use Rattle.mg_commands.specs.Theorems.{RequestsAreConsistent}
use Rattle.mg_words.specs.declared.peer.Peer.{Peer}
use Rattle.mg_engine.specs.declared.taken.Taken.{Taken}
use Rattle.mg_engine.specs.Arrival.{Takes}
use Rattle.mg_engine.specs.aids.Order.{ArrivalOrderIsIrrelevant}
use Rattle.mg_core.specs.declared.event.Event.{Event}
use Rattle.mg_core.specs.declared.event.Event.TheVariants.{Control, Media, Tick}
use Rattle.mg_core.specs.Interleaving.{is_elsewhere, seen_at, AreSameToEachPort}
use Rattle.mg_core.specs.Step.{Sent, Step, Run}
use Rattle.mg_core.specs.World.{World, Tally, one_more_at, result_place, with_taken}
use Rattle.mg_core.proofs.ConsistentLemmas.{IsConsistentWorld, ArrivalsAreConsistent, step_keeps}

-- ## Counts of two packets

two_more : (k j : ℕ) (counts : List ℕ) → one_more_at k (one_more_at j counts) ≡ one_more_at j (one_more_at k counts)
two_more k j [] = refl
two_more zero zero (x ∷ xs) = refl
two_more zero (suc j) (x ∷ xs) = refl
two_more (suc k) zero (x ∷ xs) = refl
two_more (suc k) (suc j) (x ∷ xs) = ap (λ (l : List ℕ). x ∷ l) (two_more k j xs)

two_taken : (a b : Taken) (t : Tally) → with_taken b (with_taken a t) ≡ with_taken a (with_taken b t)
two_taken a b t = ap (λ (l : List ℕ). record t { media = t.media + 1 + 1; results = l })
    (two_more (result_place b) (result_place a) t.results)

-- ## The events that a port sees

both_true : (x y : Bool) → x ≡ true → y ≡ true → (x && y) ≡ true
both_true true y h k = k
both_true false y h k = h

abbrev are_elsewhere : ℕ → List Event → Bool
are_elsewhere port events = list_all (is_elsewhere port) events

-- A port that sees the event.
abbrev port_of : Event → ℕ
port_of (Control source bytes) = 0
port_of (Media port source bytes) = port
port_of Tick = 0

not_itself : (port : ℕ) → not (eqb port port) ≡ false
not_itself port = ap not (eq-eqb port port refl)

sees_its_own : (e : Event) → is_elsewhere (port_of e) e ≡ false
sees_its_own (Control source bytes) = refl
sees_its_own (Media port source bytes) = not_itself port
sees_its_own Tick = refl

seen_first : (port : ℕ) (e : Event) (es : List Event) → is_elsewhere port e ≡ false →
    seen_at port (e ∷ es) ≡ e ∷ seen_at port es
seen_first port e es here = rw here refl

not_seen_first : (port : ℕ) (e : Event) (es : List Event) → is_elsewhere port e ≡ true →
    seen_at port (e ∷ es) ≡ seen_at port es
not_seen_first port e es away = rw away refl

none_seen : (port : ℕ) (es : List Event) → are_elsewhere port es ≡ true → seen_at port es ≡ []
none_seen port [] h = refl
none_seen port (e ∷ es) h =
    let (first, others) = and_parts (is_elsewhere port e) (are_elsewhere port es) h in
    not_seen_first port e es first ∙ none_seen port es others

heads : (e f : Event) (xs ys : List Event) → e ∷ xs ≡ f ∷ ys → e ≡ f
heads e f xs ys h = cc h

tails : (e f : Event) (xs ys : List Event) → e ∷ xs ≡ f ∷ ys → xs ≡ ys
tails e f xs ys h = cc h

-- ## The first event that a port sees

-- The event follows only events that the port does not see.
record IsBehind (port : ℕ) (e : Event) (seen events : List Event) : Type 0 where
  before : List Event
  after : List Event
  parts : events ≡ before ++ e ∷ after
  unseen : are_elsewhere port before ≡ true
  rest : seen_at port after ≡ seen

behind_at : (port : ℕ) (e f : Event) (seen events : List Event) (b : Bool) → is_elsewhere port f ≡ b →
    seen_at port (f ∷ events) ≡ e ∷ seen → (seen_at port events ≡ e ∷ seen → IsBehind port e seen events) →
    IsBehind port e seen (f ∷ events)
behind_at port e f seen events true away is rest =
    let later = rest (sym (not_seen_first port f events away) ∙ is) in
    record {
      before = f ∷ later.before;
      after = later.after;
      parts = ap (λ (l : List Event). f ∷ l) later.parts;
      unseen = both_true (is_elsewhere port f) (are_elsewhere port later.before) away later.unseen;
      rest = later.rest;
    }
behind_at port e f seen events false here is rest =
    let both = sym (seen_first port f events here) ∙ is in
    record {
      before = [];
      after = events;
      parts = ap (λ (x : Event). x ∷ events) (heads f e (seen_at port events) seen both);
      unseen = refl;
      rest = tails f e (seen_at port events) seen both;
    }

behind : (port : ℕ) (e : Event) (seen events : List Event) → seen_at port events ≡ e ∷ seen →
    IsBehind port e seen events
behind port e seen [] is = absurd (cc is)
behind port e seen (f ∷ events) is = behind_at port e f seen events (is_elsewhere port f) refl is
    (behind port e seen events)

-- ## Two lists that are the same to each port

nothing_else : (f : Event) (b : List Event) → AreSameToEachPort [] (f ∷ b) → ⊥
nothing_else f b same =
    let is : [] ≡ f ∷ seen_at (port_of f) b = same (port_of f) ∙ seen_first (port_of f) f b (sees_its_own f) in cc is

-- If every port sees the first event of one list, the other list begins with that event too.
first_is : (e f : Event) (a b : List Event) → ((port : ℕ) → is_elsewhere port e ≡ false) →
    AreSameToEachPort (e ∷ a) (f ∷ b) → e ≡ f
first_is e f a b all same =
    let port = port_of f in
    heads e f (seen_at port a) (seen_at port b)
    (sym (seen_first port e a (all port)) ∙ same port ∙ seen_first port f b (sees_its_own f))

rest_is : (e : Event) (a b : List Event) → ((port : ℕ) → is_elsewhere port e ≡ false) →
    AreSameToEachPort (e ∷ a) (e ∷ b) → AreSameToEachPort a b
rest_is e a b all same port =
    tails e e (seen_at port a) (seen_at port b)
    (sym (seen_first port e a (all port)) ∙ same port ∙ seen_first port e b (all port))

apart_of : (b : Bool) (m n : ℕ) → eqb m n ≡ b → not b ≡ true → m ≢ n
apart_of true m n e h = absurd (cc h)
apart_of false m n e h = λ same. let yes : eqb m n ≡ true = eq-eqb m n same in cc (sym e ∙ yes)

at_port : (m n : ℕ) (b : Bool) → eqb m n ≡ b → not b ≡ false → m ≡ n
at_port m n true e h = eqb-true m n e
at_port m n false e h = absurd (cc h)

-- Suppose one list begins with a packet, and in the other list, the packet's port sees no event before this packet. If
-- the packet is taken out of both lists, they are still the same to each port.
without_at : (port at : ℕ) (source : Peer) (bytes : List ℕ) (a before after : List Event) (b : Bool) →
    is_elsewhere port (Media at source bytes) ≡ b → are_elsewhere at before ≡ true → seen_at at after ≡ seen_at at a →
    AreSameToEachPort (Media at source bytes ∷ a) (before ++ Media at source bytes ∷ after) →
    seen_at port a ≡ seen_at port (before ++ after)
without_at port at source bytes a before after true away unseen rest same =
    let e = Media at source bytes in
    let pass = λ (x : Event). not (is_elsewhere port x) in
    sym (not_seen_first port e a away)
    ∙ same port
    ∙ filter-append pass before (e ∷ after)
    ∙ ap (λ (l : List Event). seen_at port before ++ l) (not_seen_first port e after away)
    ∙ sym (filter-append pass before after)
without_at port at source bytes a before after false here unseen rest same =
    let is : at ≡ port = at_port at port (eqb at port) refl here in
    let pass = λ (x : Event). not (is_elsewhere port x) in
    sym (filter-append pass before after ∙ ap (λ (l : List Event). l ++ seen_at port after)
    (subst (λ (p : ℕ). seen_at p before ≡ []) is (none_seen at before unseen)) ∙
    subst (λ (p : ℕ). seen_at p after ≡ seen_at p a) is rest)

-- ## Runs of two such lists

module _ (steps_are_one : (w : World) (event : Event) (s t : List Sent) (x y : World) → Step w event s x →
    Step w event t y → (s ≡ t) × (x ≡ y))
    (two : ArrivalOrderIsIrrelevant) (requests : RequestsAreConsistent) (arrivals : ArrivalsAreConsistent)
  where
    keeps : (w : World) (event : Event) (sent : List Sent) (next : World) → IsConsistentWorld w →
        Step w event sent next → IsConsistentWorld next
    keeps = step_keeps requests arrivals

    -- The packets at two different ports arrive in the opposite order, with the same result.
    record AreTurned (w : World) (first second : Event) (last : World) (s t : List Sent) : Type 0 where
      between : World
      one : Step w second [] between
      other : Step between first [] last
      no_first : s ≡ []
      no_second : t ≡ []

    turned : (w between last : World) (port at : ℕ) (from source : Peer) (bytes list : List ℕ) (s t : List Sent) →
        IsConsistentWorld w → port ≢ at → Step w (Media port from bytes) s between →
        Step between (Media at source list) t last → AreTurned w (Media port from bytes) (Media at source list) last s t
    turned w between last port at from source bytes list s t h apart (a, (g, represents, is), none)
        (b, (k, too, its), none_too) =
        let second = subst (λ (x : World). Takes x.gateway at source.address list k b) is too in
        let (m, at_second, at_first) = two w.gateway g k port at from.address source.address bytes list a b h apart
        represents second in
        record {
          between = record w { gateway = m; tally = with_taken b w.tally };
          one = (b, (m, at_second, refl), refl);
          other = (
            a,
            (
              k,
              at_first,
              its
                  ∙ ap (λ (x : World). record x { gateway = k; tally = with_taken b x.tally }) is
                  ∙ ap (λ (t : Tally). record w { gateway = k; tally = t }) (two_taken a b w.tally),
            ),
            refl,
          );
          no_first = none;
          no_second = none_too;
        }

    -- A packet can be moved in front of packets at other ports.
    in_front : (port : ℕ) (from : Peer) (bytes : List ℕ) (before after : List Event) (w last : World)
        (sent : List Sent) → are_elsewhere port before ≡ true → IsConsistentWorld w →
        Run w (before ++ Media port from bytes ∷ after) sent last →
        Run w (Media port from bytes ∷ before ++ after) sent last
    in_front port from bytes [] after w last sent unseen h run = run
    in_front port from bytes (Control source list ∷ before) after w last sent unseen h run = absurd (cc unseen)
    in_front port from bytes (Tick ∷ before) after w last sent unseen h run = absurd (cc unseen)
    in_front port from bytes (Media at source list ∷ before) after w last sent unseen h
        (first, others, next, step, run, is) =
        let (away, rest) = and_parts (not (eqb at port)) (are_elsewhere port before) unseen in
        let (second, later, then_world, then_step, then_run, then_is) =
        in_front port from bytes before after next last others rest
        (keeps w (Media at source list) first next h step) run in
        let swap = turned w next then_world at port source from list bytes first second h
        (apart_of (eqb at port) at port refl away) step then_step in (
          [],
          later,
          swap.between,
          swap.one,
          ([], later, then_world, swap.other, then_run, refl),
          is ∙ ap (λ (l : List Sent). l ++ others) swap.no_first ∙ then_is ∙
              ap (λ (l : List Sent). l ++ later) swap.no_second,
        )

    -- Suppose two runs begin with the same event, and their remaining events have the same outcome. Then the runs have
    -- the same outcome.
    join : (w : World) (e : Event) (a b : List Event) (s t : List Sent) (v x : World) → Run w (e ∷ a) s v →
        Run w (e ∷ b) t x → ((next : World) (others rest : List Sent) (sent : List Sent) → Step w e sent next →
        Run next a others v → Run next b rest x → (others ≡ rest) × (v ≡ x)) → (s ≡ t) × (v ≡ x)
    join w e a b s t v x (first, others, next, step, run, is) (second, rest, also, too, runs, its) later =
        let same = steps_are_one w e first second next also step too in
        let both = later next others rest first step run (subst (λ (y : World). Run y b rest x) (sym same.1) runs) in
        (is ∙ ap (λ (l : List Sent). l ++ others) same.0 ∙ ap (λ (l : List Sent). second ++ l) both.0 ∙ sym its, both.1)

    abbrev AreOne : List Event → Type 0
    AreOne a = (b : List Event) (w v x : World) (s t : List Sent) → IsConsistentWorld w → AreSameToEachPort a b →
        Run w a s v → Run w b t x → (s ≡ t) × (v ≡ x)

    -- If every port sees the first event, the claim follows from the claim for the rest of the list.
    seen_by_all : (e : Event) (a : List Event) → ((port : ℕ) → is_elsewhere port e ≡ false) → AreOne a → AreOne (e ∷ a)
    seen_by_all e a all again [] w v x s t h same run runs = absurd (nothing_else e a (λ port. sym (same port)))
    seen_by_all e a all again (f ∷ b) w v x s t h same run runs =
        let is = first_is e f a b all same in
        let alike = subst (λ (y : Event). AreSameToEachPort (e ∷ a) (y ∷ b)) (sym is) same in
        join w e a b s t v x run (subst (λ (y : Event). Run w (y ∷ b) t x) (sym is) runs)
        (λ next others rest sent step later too. again b next v x others rest (keeps w e sent next h step)
        (rest_is e a b all alike) later too)

    pub one_run : (a : List Event) → AreOne a
    one_run [] [] w v x s t h same run runs = (run.0 ∙ sym runs.0, run.1 ∙ sym runs.1)
    one_run [] (f ∷ b) w v x s t h same run runs = absurd (nothing_else f b same)
    one_run (Control source bytes ∷ a) b w v x s t h same run runs =
        seen_by_all (Control source bytes) a (λ port. refl) (one_run a) b w v x s t h same run runs
    one_run (Tick ∷ a) b w v x s t h same run runs =
        seen_by_all Tick a (λ port. refl) (one_run a) b w v x s t h same run runs
    one_run (Media port from bytes ∷ a) b w v x s t h same run runs =
        let e = Media port from bytes in
        let at = behind port e (seen_at port a) b (sym (same port) ∙ seen_first port e a (not_itself port)) in
        let parts = subst (λ (l : List Event). AreSameToEachPort (e ∷ a) l) at.parts same in
        let left : AreSameToEachPort a (at.before ++ at.after) =
        λ other. without_at other port from bytes a at.before at.after (is_elsewhere other e) refl at.unseen
        at.rest parts in
        let front = in_front port from bytes at.before at.after w x t at.unseen h
        (subst (λ (l : List Event). Run w l t x) at.parts runs) in
        join w e a (at.before ++ at.after) s t v x run front
        (λ next others rest sent step later too. one_run a (at.before ++ at.after) next v x others rest
        (keeps w e sent next h step) left later too)

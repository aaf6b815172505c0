-- The terminations of a core, one after another, and the flows among them.
use Rattle.std.proofs.Common.{◌≡◌, ℕ, eqb, ◌+◌, ◌<◌, ◌≤◌, ◌==◌, ◌&&◌, Bool, true, false, cond, List, [], ◌∷◌, ◌++◌, Option, None, Some, Result, Ok, Err, All, map, get_or, take, length, nat_lt, refl, sym, ap, subst, ◌∙◌, inl, inr, arith}
use Rattle.std.specs.Prelude.{OnOk, OnErr, filter, flat_map}
use Rattle.std.specs.List.{AllByRecursion, count_by}
use Rattle.std.proofs.lemmas.Bool.{eqb-true, lt-ltb}
use Rattle.std.proofs.lemmas.List.{length-map, length-take-le, map_push, take_more}
use Rattle.std.proofs.lemmas.List.Elements.{All-head, All-tail}
use Rattle.std.proofs.lemmas.List.Sums.{sum_by-cons}
use Rattle.mg_words.specs.Limits.{member_limit, termination_limit}
use Rattle.mg_topology.specs.Mask.{has_seat, seat_limit}
use Rattle.mg_rooms.specs.Consistent.{IsConsistent, IsTermination}
use Rattle.mg_rooms.specs.Registry.{Registry, context_at, record_at}
use Rattle.mg_rooms.specs.aids.Found.{members_of}
use Rattle.mg_rooms.specs.aids.Sound.{IsSound}
use Rattle.mg_rooms.specs.declared.context.Context.{Context}
use Rattle.mg_rooms.specs.declared.record.Record.{Record}
use Rattle.mg_engine.specs.Flow.{flow}
use Rattle.mg_engine.specs.Gateway.{Gateway}
use Rattle.mg_core.proofs.ListenerLemmas.{elsewhere}
use Rattle.mg_heard.specs.OpenFlows.{flows_to, open_flow, open_flows}
use Rattle.mg_heard.specs.aids.Hearers.{AreHearers, AreRising, HearsTalkers, flow_between, flows_among, flows_heard, is_heard, number_of, seated_of, seats_of}
use Rattle.mg_heard.specs.aids.Parties.{party_of}
use Rattle.mg_heard.specs.declared.hearer.Hearer.{Hearer}
use Rattle.mg_heard.specs.declared.seated.Seated.{Seated}
use Rattle.mg_heard.proofs.Members.{In, Pairs, all_from_pairs, from_filter, in_map, pairs_from_all, pairs_map}
use Rattle.mg_heard.proofs.PartyLemmas.{is_party}

-- ## The flows to one termination

-- Two tests that agree on all elements of a list select the same elements.
filter_same : {X : Type 0} (p q : X → Bool) (xs : List X) → ((x : X) → In x xs → p x ≡ q x) → filter p xs ≡ filter q xs
filter_same p q [] h = refl
filter_same p q (x ∷ xs) h = λ i. cond (h x (inl refl) i) (x ∷ filter_same p q xs (λ y j. h y (inr j)) i)
    (filter_same p q xs (λ y j. h y (inr j)) i)

map_same : {X Y : Type 0} (f g : X → Y) (xs : List X) → ((x : X) → In x xs → f x ≡ g x) → map f xs ≡ map g xs
map_same f g [] h = refl
map_same f g (x ∷ xs) h = λ i. h x (inl refl) i ∷ map_same f g xs (λ y j. h y (inr j)) i

flat_same : {X Y : Type 0} (f g : X → List Y) (xs : List X) → ((x : X) → In x xs → f x ≡ g x) →
    flat_map f xs ≡ flat_map g xs
flat_same f g [] h = refl
flat_same f g (x ∷ xs) h = λ i. h x (inl refl) i ++ flat_same f g xs (λ y j. h y (inr j)) i

-- The induction step of `mapped`: the filter keeps the first element `x` if `b` is true.
mapped_first : {X Y Z : Type 0} (f : X → Y) (g : Y → Z) (b : Bool) (x : X) (xs : List X) (ys : List Y) →
    map g ys ≡ map (λ x. g (f x)) xs →
    map g (cond b (f x ∷ ys) ys) ≡ map (λ x. g (f x)) (cond b (x ∷ xs) xs)
mapped_first f g true x xs ys h = λ i. g (f x) ∷ h i
mapped_first f g false x xs ys h = h

mapped : {X Y Z : Type 0} (f : X → Y) (p : Y → Bool) (g : Y → Z) (xs : List X) →
    map g (filter p (map f xs)) ≡ map (λ x. g (f x)) (filter (λ x. p (f x)) xs)
mapped f p g [] = refl
mapped f p g (x ∷ xs) = mapped_first f g (p (f x)) x (filter (λ x. p (f x)) xs) (filter p (map f xs)) (mapped f p g xs)

sound_at : (w : Gateway) → IsSound w.rooms → (r : Record) → In r w.rooms.terminations → record_at w.rooms r.number ≡ Some r
sound_at w sound r i = at w.rooms.terminations (λ k d below. sound.by_number k d below) i
  where
    at : (rs : List Record) → All (λ r. record_at w.rooms r.number ≡ Some r) rs → In r rs →
        record_at w.rooms r.number ≡ Some r
    at [] h i = absurd i
    at (x ∷ xs) h (inl e) = subst (λ (r : Record). record_at w.rooms r.number ≡ Some r) (sym e)
        (All-head (λ r. record_at w.rooms r.number ≡ Some r) x xs h)
    at (x ∷ xs) h (inr j) = at xs (All-tail (λ r. record_at w.rooms r.number ≡ Some r) x xs h) j

pub of_each : (P : Record → Type 0) (r : Record) (rs : List Record) → AllByRecursion P rs → In r rs → P r
of_each P r [] h i = absurd i
of_each P r (x ∷ rs) h (inl e) = subst P (sym e) h.0
of_each P r (x ∷ rs) h (inr i) = of_each P r rs h.1 i

seated_there : (w : Gateway) → IsConsistent w.rooms → (r : Record) → In r w.rooms.terminations →
    nat_lt r.seat seat_limit ≡ true
seated_there w h r i =
    let each = of_each (IsTermination w.rooms.limits w.rooms.next_termination) r w.rooms.terminations
    h.terminations.each i in
    lt-ltb r.seat seat_limit each.seat

-- A listener with the seats of its talkers.
abbrev hearing : Record → ℕ → Hearer
hearing l talkers = record { seated = seated_of l; talkers = talkers }

heard_in : (c d : ℕ) (b : Bool) (hears flows : Bool) → eqb c d ≡ b → (c ≡ d → hears ≡ flows) →
    (eqb c d ≡ false → flows ≡ false) → eqb c d && hears ≡ flows
heard_in c d true hears flows e h k = rw e (h (eqb-true c d e))
heard_in c d false hears flows e h k = rw e (sym (k e))

heard_is : (w : Gateway) → IsSound w.rooms → (talkers : ℕ) (l r : Record) → In l w.rooms.terminations →
    In r w.rooms.terminations → HearsTalkers w (hearing l talkers) →
    is_heard (hearing l talkers) (seated_of r) ≡ flow w r.number l.number
heard_is w sound talkers l r i j h =
    let there = sound_at w sound r j in
    heard_in r.context l.context (eqb r.context l.context) (nat_lt r.seat seat_limit && has_seat talkers r.seat)
    (flow w r.number l.number) refl
    (λ same. ap (λ (b : Bool). b && has_seat talkers r.seat) (seated_there w sound.consistent r j)
    ∙ h.each r there same)
    (elsewhere w r l there (sound_at w sound l i))

flow_is : (w : Gateway) → IsSound w.rooms → (l r : Record) → In l w.rooms.terminations →
    In r w.rooms.terminations → flow_between (party_of l) (party_of r) ≡ open_flow w l.number r.number
flow_is w sound l r i j =
    let listener = is_party w l (sound_at w sound l i) in
    let talker = is_party w r (sound_at w sound r j) in
    λ k. record {
      listener = l.number;
      talker = r.number;
      context = listener.context k;
      listener_at = listener.at k;
      talker_at = talker.at k;
    }

one_heard : (w : Gateway) → IsSound w.rooms → (talkers : ℕ) (l : Record) → In l w.rooms.terminations →
    HearsTalkers w (hearing l talkers) →
    flows_heard (map seated_of w.rooms.terminations) (hearing l talkers) ≡ flows_to w l.number
one_heard w sound talkers l i h =
    let rs = w.rooms.terminations in
    let heard = λ (r : Record). is_heard (hearing l talkers) (seated_of r) in
    let flows = λ (r : Record). flow w r.number l.number in
    mapped seated_of (is_heard (hearing l talkers)) (λ t. flow_between (party_of l) t.party) rs
    ∙ map_same (λ r. flow_between (party_of l) (party_of r)) (λ r. open_flow w l.number r.number) (filter heard rs)
    (λ r j. flow_is w sound l r i (from_filter heard r rs j).0)
    ∙ ap (map (λ r. open_flow w l.number r.number)) (filter_same heard flows rs (λ r j. heard_is w sound talkers l r i j h))
    ∙ sym (mapped (λ r. r.number) (λ n. flow w n l.number) (open_flow w l.number) rs)

-- ## All flows

each_heard : (w : Gateway) → IsSound w.rooms → (hs : List Hearer) (rs : List Record) →
    seats_of hs ≡ map seated_of rs → All (HearsTalkers w) hs →
    ((r : Record) → In r rs → In r w.rooms.terminations) →
    flat_map (flows_heard (map seated_of w.rooms.terminations)) hs ≡ flat_map (flows_to w) (map (λ r. r.number) rs)
each_heard w sound [] [] e h within = refl
each_heard w sound [] (r ∷ rs) e h within = absurd (cc e)
each_heard w sound (x ∷ hs) [] e h within = absurd (cc e)
each_heard w sound (x ∷ hs) (r ∷ rs) e h within =
    let first : x.seated ≡ seated_of r = cc e in
    let rest : seats_of hs ≡ map seated_of rs = cc e in
    let is : x ≡ hearing r x.talkers = λ i. record { seated = first i; talkers = x.talkers } in
    let flows = ap (flows_heard (map seated_of w.rooms.terminations)) is
    ∙ one_heard w sound x.talkers r (within r (inl refl)) (subst (HearsTalkers w) is (All-head (HearsTalkers w) x hs h)) in
    let others = each_heard w sound hs rs rest (All-tail (HearsTalkers w) x hs h) (λ r i. within r (inr i)) in
    λ i. flows i ++ others i

pub are_flows : (w : Gateway) (hs : List Hearer) → IsSound w.rooms → AreHearers w hs → flows_among hs ≡ open_flows w
are_flows w hs sound h =
    ap (λ (ts : List Seated). flat_map (flows_heard ts) hs) h.seated
    ∙ each_heard w sound hs w.rooms.terminations h.seated h.talkers (λ r i. i)

-- ## The number of flows to a termination

one_few : (a b : Bool) (t : Seated) (ts : List Seated) (m : ℕ) → length ts ≤ m →
    length (cond (a && b) (t ∷ ts) ts) ≤ cond a 1 0 + m
one_few true true t ts m h = omega (arith, h)
one_few true false t ts m h = omega (arith, h)
one_few false b t ts m h = omega (arith, h)

few_from : (h : Hearer) (rs : List Record) →
    length (filter (is_heard h) (map seated_of rs)) ≤ count_by (λ r. r.context == h.seated.party.context) rs
few_from h [] = omega arith
few_from h (r ∷ rs) = rw (sum_by-cons (λ (x : Record). cond (x.context == h.seated.party.context) 1 0) r rs)
    (one_few (r.context == h.seated.party.context) (nat_lt r.seat seat_limit && has_seat h.talkers r.seat) (seated_of r)
    (filter (is_heard h) (map seated_of rs)) (count_by (λ x. x.context == h.seated.party.context) rs) (few_from h rs))

members_few : (o : Option Context) → ((x : Context) → o ≡ Some x → length x.members ≤ member_limit) →
    length (members_of o) ≤ member_limit
members_few None f = omega arith
members_few (Some x) f = f x refl

few_heard : (rooms : Registry) → IsSound rooms → (h : Hearer) →
    length (flows_heard (map seated_of rooms.terminations) h) ≤ member_limit
few_heard rooms sound h =
    let c = h.seated.party.context in
    omega (
      arith,
      length-map (filter (is_heard h) (map seated_of rooms.terminations)) (λ t. flow_between h.seated.party t.party),
      few_from h rooms.terminations,
      sound.consistent.agree.as_many c,
      members_few (context_at rooms c) (λ x is. (sound.context c x is).1.few),
    )

-- Each termination of a core hears at most `member_limit` others.
pub hearers_few : (rooms : Registry) (hs : List Hearer) → IsSound rooms →
    seats_of hs ≡ map seated_of rooms.terminations →
    All (λ h. length (flows_heard (seats_of hs) h) ≤ member_limit) hs
hearers_few rooms hs sound is = λ k d below.
    subst (λ (ts : List Seated). length (flows_heard ts (get_or hs k d)) ≤ member_limit) (sym is)
    (few_heard rooms sound (get_or hs k d))

mapped_twice : (hs : List Hearer) → map number_of hs ≡ map (λ (t : Seated). t.party.number) (seats_of hs)
mapped_twice [] = refl
mapped_twice (h ∷ hs) = λ i. number_of h ∷ mapped_twice hs i

numbers_seated : (rs : List Record) → map (λ (t : Seated). t.party.number) (map seated_of rs) ≡ map (λ r. r.number) rs
numbers_seated [] = refl
numbers_seated (r ∷ rs) = λ i. r.number ∷ numbers_seated rs i

unmapped : {X : Type 0} (f : X → ℕ) (xs : List X) → Pairs (λ a b. a < b) (map f xs) → Pairs (λ x y. f x < f y) xs
unmapped f [] h = tt
unmapped f (x ∷ xs) h = (λ y i. h.0 (f y) (in_map f y xs i), unmapped f xs h.1)

pub hearers_rising : (rooms : Registry) (hs : List Hearer) → IsConsistent rooms →
    seats_of hs ≡ map seated_of rooms.terminations → AreRising hs
hearers_rising rooms hs h is =
    let up = pairs_map (λ r later. r.number < later.number) (λ a b. a < b) (λ r. r.number) rooms.terminations
    (λ x y less. less) (pairs_from_all (λ r later. r.number < later.number) rooms.terminations h.terminations.rising) in
    all_from_pairs (λ h later. number_of h < number_of later) hs (unmapped number_of hs
    (subst (Pairs (λ a b. a < b)) (sym (mapped_twice hs ∙ ap (map (λ (t : Seated). t.party.number)) is
    ∙ numbers_seated rooms.terminations)) up))

-- ## One termination after another

pub hearer_more : {E : Type 0} (rs : List Record) (i : ℕ) (r : Record) (h : Hearer) (hs new : List Hearer)
    (pushed : Result (Unit {0}) E) → i < length rs → length rs ≤ termination_limit → get_or rs i r ≡ r →
    seats_of hs ≡ map seated_of (take i rs) → OnOk pushed (new ≡ hs ++ h ∷ []) →
    OnErr pushed (length hs ≡ termination_limit) → new ≡ hs ++ h ∷ []
hearer_more rs i r h hs new (Ok done) there few is so_far put full = put
hearer_more rs i r h hs new (Err fault) there few is so_far put full =
    let short = length-take-le i rs (omega arith) in
    let long = sym (length-map hs (λ h. h.seated)) ∙ ap length so_far ∙ length-map (take i rs) seated_of in
    absurd (omega (arith, full))

pub seats_next : (rs : List Record) (i : ℕ) (r : Record) (h : Hearer) (hs new : List Hearer) → i < length rs →
    get_or rs i r ≡ r → h.seated ≡ seated_of r → seats_of hs ≡ map seated_of (take i rs) → new ≡ hs ++ h ∷ [] →
    seats_of new ≡ map seated_of (take (i + 1) rs)
seats_next rs i r h hs new there is e so_far put =
    ap seats_of put ∙ map_push (λ h. h.seated) hs h
    ∙ ap (λ (l : List Seated). l ++ h.seated ∷ []) so_far
    ∙ ap (λ (t : Seated). map seated_of (take i rs) ++ t ∷ []) e
    ∙ sym (map_push seated_of (take i rs) r)
    ∙ ap (λ (x : Record). map seated_of (take i rs ++ x ∷ [])) (sym is)
    ∙ ap (map seated_of) (sym (take_more rs i r there))

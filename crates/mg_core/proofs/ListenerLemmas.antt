-- Searching for the talkers whose speech flows to a listener.
use Rattle.std.proofs.Common.{◌≡◌, ◌==◌, ◌&&◌, ◌∙◌, ℕ, ◌+◌, ◌<◌, ◌≤◌, Bool, true, false, cond, List, [], ◌∷◌, ◌++◌, Option, Some, None, Result, Ok, Err, All, map, get_or, take, drop, length, length-append, refl, sym, ap, subst, arith}
use Rattle.std.proofs.lemmas.List.{append-nil, take_more, take_more_set, take-append-drop, map-append}
use Rattle.std.proofs.lemmas.List.Elements.{All-head, All-tail}
use Rattle.std.proofs.lemmas.List.Sums.{sum_by-cons}
use Rattle.std.proofs.lemmas.List.Elements.{filter-append}
use Rattle.std.specs.Prelude.{OnOk, OnErr, slice_set}
use Rattle.std.specs.List.{filter, count_by}
use Rattle.mg_words.specs.Limits.{member_limit}
use Rattle.mg_rooms.specs.declared.context.Context.{Context}
use Rattle.mg_rooms.specs.declared.record.Record.{Record}
use Rattle.mg_rooms.specs.Registry.{record_at, context_at}
use Rattle.mg_rooms.specs.aids.Found.{members_of}
use Rattle.mg_rooms.specs.aids.Sound.{IsSound}
use Rattle.mg_engine.specs.Flow.{flow}
use Rattle.mg_core.specs.Flows.{Listener}
use Rattle.mg_engine.specs.Gateway.{Gateway, context_of, numbers_of}
use Rattle.mg_engine.specs.aids.Found.{context_in}

-- ## The talkers that a listener hears are members of its context

and_left : (a b : Bool) → a && b ≡ true → a ≡ true
and_left true b h = refl
and_left false b h = h

in_context : (w : Gateway) (listener : ℕ) (r : Record) → record_at w.rooms r.number ≡ Some r →
    flow w r.number listener ≡ true → r.context == context_of w listener ≡ true
in_context w listener r found h =
    subst (λ (o : Option Record). context_in o == context_of w listener ≡ true) found (and_left _ _ h)

-- Speech does not flow between different contexts.
pub elsewhere : (w : Gateway) (r l : Record) → record_at w.rooms r.number ≡ Some r →
    record_at w.rooms l.number ≡ Some l → r.context == l.context ≡ false → flow w r.number l.number ≡ false
elsewhere w r l there listening apart =
    let from : context_of w r.number ≡ r.context = ap context_in there in
    let to : context_of w l.number ≡ l.context = ap context_in listening in
    rw (from, to, apart) refl

one_few : (a b : Bool) (n m : ℕ) (ns : List ℕ) → (a ≡ true → b ≡ true) → length ns ≤ m →
    length (cond a (n ∷ ns) ns) ≤ cond b 1 0 + m
one_few true true n m ns f h = omega (arith, h)
one_few true false n m ns f h = absurd (cc (f refl))
one_few false true n m ns f h = omega (arith, h)
one_few false false n m ns f h = omega (arith, h)

few_among : (p : ℕ → Bool) (q : Record → Bool) (rs : List Record) →
    All (λ r. p r.number ≡ true → q r ≡ true) rs → length (filter p (map (λ r. r.number) rs)) ≤ count_by q rs
few_among p q [] h = omega arith
few_among p q (r ∷ rs) h = rw (sum_by-cons (λ (x : Record). cond (q x) 1 0) r rs)
    (one_few (p r.number) (q r) r.number (count_by q rs) (filter p (map (λ x. x.number) rs))
    (All-head (λ x. p x.number ≡ true → q x ≡ true) r rs h)
    (few_among p q rs (All-tail (λ x. p x.number ≡ true → q x ≡ true) r rs h)))

members_few : (o : Option Context) → ((x : Context) → o ≡ Some x → length x.members ≤ member_limit) →
    length (members_of o) ≤ member_limit
members_few None f = omega arith
members_few (Some x) f = f x refl

pub talkers_few : (w : Gateway) (listener : ℕ) → IsSound w.rooms →
    length (filter (λ n. flow w n listener) (numbers_of w)) ≤ member_limit
talkers_few w listener sound =
    let c = context_of w listener in
    omega (
      arith,
      few_among (λ n. flow w n listener) (λ r. r.context == c) w.rooms.terminations
          (λ k d lt. in_context w listener (get_or w.rooms.terminations k d) (sound.by_number k d lt)),
      sound.consistent.agree.as_many c,
      members_few (context_at w.rooms c) (λ x is. (sound.context c x is).1.few),
    )

-- ## The search for talkers, termination by termination

one_more : (p : ℕ → Bool) (rs : List Record) (i : ℕ) (r : Record) → i < length rs → get_or rs i r ≡ r →
    filter p (map (λ x. x.number) (take (i + 1) rs)) ≡
    filter p (map (λ x. x.number) (take i rs)) ++ cond (p r.number) (r.number ∷ []) []
one_more p rs i r lt is =
    ap (λ l. filter p (map (λ x. x.number) l)) (take_more rs i r lt ∙ ap (λ (x : Record). take i rs ++ x ∷ []) is) ∙
    ap (filter p) (map-append (λ x. x.number) (take i rs) (r ∷ [])) ∙
    filter-append p (map (λ x. x.number) (take i rs)) (r.number ∷ [])

front_few : (p : ℕ → Bool) (rs : List Record) (k : ℕ) →
    length (filter p (map (λ x. x.number) (take k rs))) ≤ length (filter p (map (λ x. x.number) rs))
front_few p rs k =
    let front = take k rs in
    let back = drop k rs in
    let whole : filter p (map (λ x. x.number) rs) ≡ filter p (map (λ x. x.number) front) ++
    filter p (map (λ x. x.number) back) =
    ap (λ l. filter p (map (λ x. x.number) l)) (sym (take-append-drop k rs)) ∙
    ap (filter p) (map-append (λ x. x.number) front back) ∙
    filter-append p (map (λ x. x.number) front) (map (λ x. x.number) back) in
    omega (
      arith,
      ap (λ (l : List ℕ). length l) whole,
      length-append (filter p (map (λ x. x.number) front)) (filter p (map (λ x. x.number) back)),
    )

-- If the next termination's speech does not flow to the listener, the talkers found so far stay the same.
pub not_taken : (p : ℕ → Bool) (rs : List Record) (i : ℕ) (r : Record) (ns : List ℕ) → i < length rs →
    get_or rs i r ≡ r → p r.number ≡ false → ns ≡ filter p (map (λ x. x.number) (take i rs)) →
    ns ≡ filter p (map (λ x. x.number) (take (i + 1) rs))
not_taken p rs i r ns lt is away h =
    h ∙ sym (one_more p rs i r lt is ∙ ap (λ b. filter p (map (λ x. x.number) (take i rs)) ++
    cond b (r.number ∷ []) []) away ∙ append-nil (filter p (map (λ x. x.number) (take i rs))))

-- If the next termination's speech flows to the listener, there is room to store this termination as a talker, and it
-- is stored.
pub is_taken : {E : Type 0} (p : ℕ → Bool) (rs : List Record) (i : ℕ) (r : Record) (ns new : List ℕ)
    (pushed : Result (Unit {0}) E) → i < length rs → get_or rs i r ≡ r → p r.number ≡ true →
    length (filter p (map (λ x. x.number) rs)) ≤ member_limit → ns ≡ filter p (map (λ x. x.number) (take i rs)) →
    OnOk pushed (new ≡ ns ++ r.number ∷ []) → OnErr pushed (length ns ≡ member_limit) →
    new ≡ filter p (map (λ x. x.number) (take (i + 1) rs))
is_taken {E = E} p rs i r ns new pushed lt is comes few h =
    let more : filter p (map (λ x. x.number) (take (i + 1) rs)) ≡ ns ++ r.number ∷ [] =
    one_more p rs i r lt is ∙ ap (λ b. filter p (map (λ x. x.number) (take i rs)) ++ cond b (r.number ∷ []) []) comes ∙
    ap (λ l. l ++ r.number ∷ []) (sym h) in
    let there : length ns + 1 ≤ member_limit =
    omega (arith, few, front_few p rs (i + 1), ap (λ (l : List ℕ). length l) more, length-append ns (r.number ∷ [])) in
    put pushed more there
  where
    put : (o : Result (Unit {0}) E) → filter p (map (λ x. x.number) (take (i + 1) rs)) ≡ ns ++ r.number ∷ [] →
        length ns + 1 ≤ member_limit → OnOk o (new ≡ ns ++ r.number ∷ []) → OnErr o (length ns ≡ member_limit) →
        new ≡ filter p (map (λ x. x.number) (take (i + 1) rs))
    put (Ok done) more there a b = a ∙ sym more
    put (Err e) more there a b = absurd (omega (arith, b, there))

-- ## Storing the terminations

pub place_filled : (f : Record → Listener) (places : List Listener) (rs : List Record) (i : ℕ) (r : Record)
    (new : Listener) → i < length places → i < length rs → get_or rs i r ≡ r → new ≡ f r →
    take i places ≡ map f (take i rs) → take (i + 1) (slice_set places i new) ≡ map f (take (i + 1) rs)
place_filled f places rs i r new lt there is put h =
    take_more_set places i new lt ∙ ap (λ (l : List Listener). l ++ new ∷ []) h ∙
    ap (λ (x : Listener). map f (take i rs) ++ x ∷ []) put ∙ sym
    (ap (map f) (take_more rs i r there ∙ ap (λ (x : Record). take i rs ++ x ∷ []) is) ∙
    map-append f (take i rs) (r ∷ []))

-- Triples by the seats of the members that their terms match.
use Rattle.mg_engine.proofs.Common.{IsSound, ne_eqb, and_parts, and-false, false_from_ne_true, ◌≡◌, ℕ, zero, suc, ◌+◌, ◌<◌, eqb, ◌&&◌, ◌||◌, Bool, true, false, cond, List, [], ◌∷◌, ◌++◌, ◌==◌, length, get_or, take, drop, Some, Result, Ok, Err, refl, sym, ap, subst, ◌∙◌, arith, Any, list_any, eqb-true, eq-eqb, take_more, Triple, has_seat, Overlaps, Context, Record, Registry, record_at, context_at, members_at, Place, RoomFlows, hears, Target, Gateway, ContextEdit, Apply, may_hear, existing_context, EngineState, StandsFor, ShareContext, has, place_of, HasMembers, ErrorNumber, TopologyTriple, with_triples, check_triples, AreMatched, IsTrue, ◌↔◌, nat_tests, are_together, holds, hears_after, KeepsPlaces, KeepsOthers, drop_more, IllegalCombination, matched, is_barred, names_others, check_triple, overlaps, mentions, word_of, is_oneway, Isolate, Oneway, Bothway, IsOutcome, IsRoomOf, IsSeated, Matches, IsMatched, or-false}
use Rattle.std.specs.Cmp.{both_ways}
use Rattle.mg_topology.specs.aids.Topology as topology
use Rattle.mg_engine.specs.Outcome.{apply_triples}
use Rattle.mg_words.specs.declared.association.Association.{Association}
use Rattle.mg_engine.specs.Triples as terms
use Rattle.mg_engine.proofs.MemberLemmas.{Hears, seats_differ, unequal}
use Rattle.mg_engine.proofs.PlaceLemmas.{at, on_place, one_record, in_one_room}

seated : (w : Registry) (c n : ℕ) (r : Record) → IsSound w → record_at w n ≡ Some r → r.context ≡ c →
    IsSeated w c n r.seat
seated w c n r sound found context =
    let (p, on) = on_place w n r sound found in (r, p, on, context, (at w r p on.place).seat)

-- ## One termination by its number

module _ (w : Registry) (c number mask : ℕ) (r : Record) (sound : IsSound w) (found : record_at w number ≡ Some r)
    (context : r.context ≡ c) (of_seat : (s : ℕ) → has_seat mask s ≡ eqb s r.seat) where
  same_seat : (n seat : ℕ) → IsSeated w c n seat → (b : Bool) → eqb number n ≡ b → eqb seat r.seat ≡ (b || false)
  same_seat n seat (q, p, on, here, is) true e = eq-eqb seat r.seat (sym is ∙ (at w q p on.place).seat ∙
      ap (λ (x : Record). x.seat) (one_record w n number q r on.found found (sym (eqb-true number n e))))
  same_seat n seat (q, p, on, here, is) false e = ne_eqb seat r.seat (λ same. unequal number n e
      (sound.one_seat number n r q found on.found (context ∙ sym here) (sym same ∙ sym is ∙ (at w q p on.place).seat)))

  pub matches_number : Matches w c (number ∷ []) mask
  matches_number = record {
    same = λ n seat s. of_seat seat ∙ same_seat n seat s (eqb number n) refl;
    seats = λ seat h. (
      number,
      rw (eqb-true seat r.seat (sym (of_seat seat) ∙ h)) (seated w c number r sound found context),
    );
    named = λ n h. let same = eqb-true number n (sym (or-false (eqb number n)) ∙ h) in
        (r.seat, rw (sym same) (seated w c number r sound found context));
  }

-- ## All members

room_is : (w : Registry) (c room : ℕ) (r : Record) (p : Place) → IsRoomOf w c room → place_of w r ≡ Some p →
    r.context ≡ c → p.room ≡ room
room_is w c room r p is place here = grind (arith, nat_tests)

context_is : (w : Registry) (c room : ℕ) (r : Record) (p : Place) → ((x y : Context) → context_at w r.context ≡ Some x →
    context_at w c ≡ Some y → x.room ≡ y.room → r.context ≡ c) → IsRoomOf w c room → place_of w r ≡ Some p →
    p.room ≡ room → r.context ≡ c
context_is w c room r p one is place here = grind (arith, nat_tests, one)

pub matches_every : (w : Registry) (c room mask : ℕ) (table : List RoomFlows) → IsSound w → IsRoomOf w c room →
    HasMembers w table → ((seat : ℕ) → has_seat mask seat ≡ holds table (record { room = room; seat = seat })) →
    Matches w c (members_at w c) mask
matches_every w c room mask table sound is all held = record {
  same = λ n seat s.
      let (q, p, on, here, at_seat) = s in
      let place : p ≡ record { room = room; seat = seat } =
      λ i. record { room = room_is w c room q p is on.place here i; seat = at_seat i } in
      held seat ∙ ap (holds table) (sym place) ∙ (all.each n q p on).held ∙
      sym ((sound.members c n).1 (q, on.found, here));
  seats = λ seat h.
      let p : Place = record { room = room; seat = seat } in
      let (n, q, on) = all.nobody p (sym (held seat) ∙ h) in
      (n, (q, p, on, context_is w c room q p (sound.one_room q.context c) is on.place refl, refl));
  named = λ n h. let (r, found, here) = (sound.members c n).0 h in (r.seat, seated w c n r sound found here);
}

-- ## Overlaps

any_named : (xs ys : List ℕ) (n : ℕ) → has xs n ≡ true → has ys n ≡ true → list_any (has ys) xs ≡ true
any_named [] ys n one two = absurd (cc one)
any_named (x ∷ xs) ys n one two = grind (arith, nat_tests, any_named xs ys n)

abbrev AreNamed : List ℕ → List ℕ → Type 0
AreNamed xs ys = (n : ℕ) × (has xs n ≡ true) × (has ys n ≡ true)

some_named : (xs ys : List ℕ) → list_any (has ys) xs ≡ true → AreNamed xs ys
some_named [] ys h = absurd (cc h)
some_named (x ∷ xs) ys h = grind (arith, nat_tests, some_named xs ys)

oneway_is : (a : Association) → is_oneway a ≡ true → a ≡ Oneway
oneway_is Isolate h = absurd (cc h)
oneway_is Oneway h = refl
oneway_is Bothway h = absurd (cc h)

-- The triple by terms overlaps if and only if the triple by seats does.
module _ (w : Registry) (c : ℕ) (members : List ℕ) (x : TopologyTriple) (y : Triple)
    (law : IsTrue (overlaps y) ↔ Overlaps y) (m : IsMatched w c members x y) where
  by_terms : terms.overlaps members x ≡ true → overlaps y ≡ true
  by_terms h =
      let (oneway, some) = and_parts (is_oneway x.association)
      (list_any (has (matched members x.second)) (matched members x.first)) h in
      let (n, a, b) = some_named (matched members x.first) (matched members x.second) some in
      let (seat, is) = m.first.named n a in
      law.1 (
        m.association ∙ oneway_is x.association oneway,
        record { seat = seat; in_first = m.first.same n seat is ∙ a; in_second = m.second.same n seat is ∙ b },
      )

  by_seats : overlaps y ≡ true → terms.overlaps members x ≡ true
  by_seats h =
      let (oneway, common) = law.0 h in
      let (n, is) = m.first.seats common.seat common.in_first in
      let a = sym (m.first.same n common.seat is) ∙ common.in_first in
      let b = sym (m.second.same n common.seat is) ∙ common.in_second in
      ap (λ (z : Bool). z && list_any (has (matched members x.second)) (matched members x.first))
      (ap is_oneway (sym m.association ∙ oneway)) ∙
      any_named (matched members x.first) (matched members x.second) n a b

  pub overlaps_are : terms.overlaps members x ≡ overlaps y
  overlaps_are = both_ways (terms.overlaps members x) (overlaps y) by_terms by_seats

-- ## Checks

pub not_barred : (members : List ℕ) (x : TopologyTriple) → is_barred x.first ≡ false → is_barred x.second ≡ false →
    names_others members x.first ≡ false → names_others members x.second ≡ false
    → (b : Bool) → terms.overlaps members x ≡ b →
    check_triple members x ≡ cond b (Err IllegalCombination) (Ok tt)
not_barred members x one two three four true five = rw (one, two, three, four, five) refl
not_barred members x one two three four false five = rw (one, two, three, four, five) refl

-- ## Lists of triples

pub checked_to : (members : List ℕ) (xs : List TopologyTriple) (i : ℕ) (x d : TopologyTriple) → i < length xs →
    x ≡ get_or xs i d → check_triples members xs ≡ check_triples members (drop i xs) →
    check_triple members x ≡ Ok tt → check_triples members xs ≡ check_triples members (drop (i + 1) xs)
checked_to members xs i x d lt is before e =
    grind (arith, nat_tests, ap (check_triple members) (sym is), drop_more xs i d lt)

pub matched_push : (w : Registry) (c : ℕ) (members : List ℕ) (xs : List TopologyTriple) (ys : List Triple)
    (x : TopologyTriple) (y : Triple) → AreMatched w c members xs ys → IsMatched w c members x y →
    AreMatched w c members (xs ++ x ∷ []) (ys ++ y ∷ [])
matched_push w c members [] [] x y h m = (m, tt)
matched_push w c members (a ∷ xs) (b ∷ ys) x y h m = (h.0, matched_push w c members xs ys x y h.1 m)
matched_push w c members xs ys x y h m = absurd h

pub matched_to : (w : Registry) (c : ℕ) (members : List ℕ) (xs : List TopologyTriple) (ys : List Triple) (i : ℕ)
    (x d : TopologyTriple) (y : Triple) → i < length xs → x ≡ get_or xs i d → AreMatched w c members (take i xs) ys →
    IsMatched w c members x y → AreMatched w c members (take (i + 1) xs) (ys ++ y ∷ [])
matched_to w c members xs ys i x d y lt is h m =
    let all = matched_push w c members (take i xs) ys (get_or xs i d) y h
    (subst (λ (z : TopologyTriple). IsMatched w c members z y) is m) in
    subst (λ (zs : List TopologyTriple). AreMatched w c members zs (ys ++ y ∷ [])) (sym (take_more xs i d lt)) all

pub none_overlaps : (ys : List Triple) (y : Triple) → ¬ Any Overlaps ys → ¬ Overlaps y → ¬ Any Overlaps (ys ++ y ∷ [])
none_overlaps [] y none apart (zero, x, lt, is, overlap) = apart (subst Overlaps (sym is) overlap)
none_overlaps [] y none apart (suc i, x, lt, is, overlap) = absurd (omega (arith, lt))
none_overlaps (a ∷ ys) y none apart (zero, x, lt, is, overlap) = none (0, x, omega arith, is, overlap)
none_overlaps (a ∷ ys) y none apart (suc i, x, lt, is, overlap) =
    none_overlaps ys y (λ some. let (j, z, less, at, o) = some in none (suc j, z, omega (arith, less), at, o)) apart
    (i, x, omega (arith, lt), is, overlap)

-- ## The effect of triples

pub has_still : (w : Registry) (old new : List RoomFlows) → KeepsPlaces old new → HasMembers w old → HasMembers w new
has_still w old new keeps h = record {
  each = λ n r p on.
      grind (arith, nat_tests, h.each n r p on, keeps.held p, keeps.talkers p, keeps.listeners p);
  nobody = λ p held. h.nobody p (sym (keeps.held p) ∙ held);
}

module _ (w : Registry) (c : ℕ) (members : List ℕ) (talker listener : ℕ) (t l : Record) (p q : Place)
    (s : ShareContext w talker listener t l p q) where
  -- A triple by seats has the same effect on two members of the context as the triple by terms.
  one_word : (x : TopologyTriple) (y : Triple) (es : List ContextEdit) (b : Bool) → t.context ≡ c → l.context ≡ c →
      IsMatched w c members x y → b ≡ may_hear es talker listener
      → cond (mentions y p.seat q.seat) (word_of y p.seat q.seat) b ≡
      may_hear (Apply (matched members x.first) (matched members x.second) x.association ∷ es) talker listener
  one_word x y es b here there m e =
      rw (
        m.first.same talker p.seat (t, p, s.first, here, refl),
        m.second.same listener q.seat (l, q, s.second, there, refl),
        m.first.same listener q.seat (l, q, s.second, there, refl),
        m.second.same talker p.seat (t, p, s.first, here, refl),
        m.association,
        e,
      ) refl

  pub all_words : (xs : List TopologyTriple) (ys : List Triple) (es : List ContextEdit) (b : Bool) → t.context ≡ c →
      l.context ≡ c → AreMatched w c members xs ys → b ≡ may_hear es talker listener
      → hears_after ys p.seat q.seat b ≡ may_hear (with_triples members xs es) talker listener
  all_words [] [] es b here there m e = e
  all_words (x ∷ xs) (y ∷ ys) es b here there m e =
      all_words xs ys (Apply (matched members x.first) (matched members x.second) x.association ∷ es) _ here there m.1
      (one_word x y es b here there m.0 e)
  all_words xs ys es b here there m e = absurd m

-- A triple in one context does not name a member of another context.
not_named : (w : Registry) (c : ℕ) (names : List ℕ) (mask n : ℕ) (r : Record) → Matches w c names mask →
    record_at w n ≡ Some r → (r.context ≡ c → ⊥) → has names n ≡ false
not_named w c names mask n r m found elsewhere = false_from_ne_true (has names n) (λ e.
    let (seat, is) = m.named n e in
    let (q, p, on, here, at) = is in
    elsewhere (ap (λ (x : Record). x.context) (one_record w n n r q found on.found refl) ∙ here))

pub other_words : (w : Registry) (c : ℕ) (members : List ℕ) (talker listener : ℕ) (t : Record) →
    record_at w talker ≡ Some t → (t.context ≡ c → ⊥) →
    (xs : List TopologyTriple) (ys : List Triple) (es : List ContextEdit) → AreMatched w c members xs ys
    → may_hear (with_triples members xs es) talker listener ≡ may_hear es talker listener
other_words w c members talker listener t found elsewhere [] [] es m = refl
other_words w c members talker listener t found elsewhere (x ∷ xs) (y ∷ ys) es m =
    let first = not_named w c (matched members x.first) y.first talker t m.0.first found elsewhere in
    let second = not_named w c (matched members x.second) y.second talker t m.0.second found elsewhere in
    other_words w c members talker listener t found elsewhere xs ys
    (Apply (matched members x.first) (matched members x.second) x.association ∷ es) m.1
    ∙ rw (first, second, and-false (has (matched members x.first) listener)) refl
other_words w c members talker listener t found elsewhere xs ys es m = absurd m

module _ (w : Registry) (c room : ℕ) (old new : List RoomFlows) (xs : List TopologyTriple) (ys : List Triple)
    (es : List ContextEdit) (sound : IsSound w) (is : IsRoomOf w c room)
    (m : AreMatched w c (members_at w c) xs ys) (members : HasMembers w old)
    (others : KeepsOthers old new room) (after : (t l : Place) → t.room ≡ room →
    IsTrue (are_together (holds old) t l) → hears new t l ≡ hears_after ys t.seat l.seat (hears old t l)) where
  triples_case : Hears w old es → (talker listener : ℕ) (t l : Record) (p q : Place) →
      ShareContext w talker listener t l p q → (b : Bool) → eqb t.context c ≡ b →
      hears new p q ≡ may_hear (with_triples (members_at w c) xs es) talker listener
  triples_case h talker listener t l p q s true e =
      let here = eqb-true t.context c e in
      let together : are_together (holds old) p q ≡ true =
      rw (
        (members.each talker t p s.first).held,
        (members.each listener l q s.second).held,
        eq-eqb p.room q.room (in_one_room w t l p q s.first.place s.second.place s.same),
        seats_differ w talker listener t l p q sound s,
      ) refl in
      after p q (room_is w c room t p is s.first.place here) together
      ∙ all_words w c (members_at w c) talker listener t l p q s xs ys es (hears old p q) here (sym s.same ∙ here) m
      (h talker listener t l p q s)
  triples_case h talker listener t l p q s false e =
      let away = unequal t.context c e in
      ap (λ (r : _). (p.room == q.room) && topology.hears r.topology p.seat q.seat) (others p.room
      (λ same. away (context_is w c room t p (sound.one_room t.context c) is s.first.place same)))
      ∙ h talker listener t l p q s
      ∙ sym (other_words w c (members_at w c) talker listener t s.first.found away xs ys es m)

  pub hears_triples : Hears w old es → Hears w new (with_triples (members_at w c) xs es)
  hears_triples h talker listener t l p q s = triples_case h talker listener t l p q s (eqb t.context c) refl

-- ## The results of applying triples

pub refused_there : (k : EngineState) (w : Gateway) (target : Target) (xs : List TopologyTriple) (e : ErrorNumber) →
    StandsFor k w → existing_context k.rooms target ≡ Err e → apply_triples w target xs ≡ Err e
unfolding apply_triples
refused_there k w target xs e h there = rw (h.rooms, there) refl

pub refused_triples : (k : EngineState) (w : Gateway) (target : Target) (xs : List TopologyTriple) (c : ℕ)
    (e : ErrorNumber) → StandsFor k w → existing_context k.rooms target ≡ Ok c →
    check_triples (members_at k.rooms c) xs ≡ Err e → apply_triples w target xs ≡ Err e
unfolding apply_triples
refused_triples k w target xs c e h there checked = rw (h.rooms, there, checked) refl

pub done_triples : (k : EngineState) (w : Gateway) (target : Target) (xs : List TopologyTriple) (c : ℕ) →
    StandsFor k w → existing_context k.rooms target ≡ Ok c → check_triples (members_at k.rooms c) xs ≡ Ok tt →
    apply_triples w target xs ≡ Ok (record w { edits = with_triples (members_at k.rooms c) xs w.edits }, c)
unfolding apply_triples
done_triples k w target xs c h there checked = rw (h.rooms, there, checked) refl

pub err_is : {A : Type 0} (k : EngineState) (result : Result A ErrorNumber)
    (outcome : Result (Gateway × A) ErrorNumber) (e : ErrorNumber) → result ≡ Err e → outcome ≡ Err e →
    IsOutcome k result outcome
err_is k result outcome e here there = rw (here, there) refl

pub ok_is : {A : Type 0} (k : EngineState) (result : Result A ErrorNumber)
    (outcome : Result (Gateway × A) ErrorNumber) (x : A) (w : Gateway) → result ≡ Ok x → outcome ≡ Ok (w, x) →
    StandsFor k w → IsOutcome k result outcome
ok_is k result outcome x w here there stands = rw here (w, there, stands)

abbrev with_words : Gateway → List ContextEdit → Gateway
with_words w es = record w { edits = es }

pub words_stand : (k : EngineState) (flows : List RoomFlows) (w : Gateway) (es : List ContextEdit) → StandsFor k w →
    Hears k.rooms flows es → StandsFor (record k { flows = flows }) (with_words w es)
words_stand k flows w es h hears = assumption

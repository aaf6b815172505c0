-- The table of flows after a member enters, leaves or changes its mode.
use Rattle.mg_engine.proofs.Common.{◌≡◌, ◌≢◌, ℕ, eqb, ◌||◌, Bool, true, false, cond, List, [], ◌∷◌, Option, Some, None, refl, sym, ap, subst, ◌∙◌, is_some, option_map, eqb-true, eq-eqb, ne_eqb, Context, Record, Limits, Registry, record_at, context_at, Place, RoomFlows, hears, ContextEdit, Enter, may_hear, IsOnPlace, ShareContext, AreSeated, HasMembers, IsSound, IsTrue, IsFalse, start_of, Lasts, is_same_place, are_together, holds, talks_at, listens_at, SetsPlace, talks, listens, and_parts, true≢false, false_from_ne_true}
use Rattle.mg_flow.specs.aids.Table as flow
use Rattle.mg_engine.specs.aids.Members.{Enters, Leaves, TakesMode, SaysOf}
use Rattle.mg_engine.proofs.PlaceLemmas.{at, seated, place, one_record, one_place, one_member, in_one_room, apart_places}

pub same_is : (p : Place) → is_same_place p p ≡ true
same_is p = rw (eq-eqb p.room p.room refl, eq-eqb p.seat p.seat refl) refl

is_place : (p q : Place) → is_same_place p q ≡ true → p ≡ q
is_place p q h =
    let (room, seat) = and_parts (eqb p.room q.room) (eqb p.seat q.seat) h in
    λ i. record { room = eqb-true p.room q.room room i; seat = eqb-true p.seat q.seat seat i }

-- Two members of a context have different seats.
pub seats_differ : (w : Registry) (talker listener : ℕ) (t l : Record) (a b : Place) → IsSound w →
    ShareContext w talker listener t l a b → eqb a.seat b.seat ≡ false
seats_differ w talker listener t l a b sound s = ne_eqb a.seat b.seat (λ same.
    s.apart (one_member w talker listener t l a b sound s.first s.second
    (in_one_room w t l a b s.first.place s.second.place s.same) same))

pub unequal : (m n : ℕ) → eqb m n ≡ false → m ≢ n
unequal m n e same = true≢false (sym (eq-eqb m n same) ∙ e)

-- Members at different places are different.
unlike : (w : Registry) (m n : ℕ) (x r : Record) (q p : Place) → IsOnPlace w m x q → IsOnPlace w n r p →
    is_same_place q p ≡ false → m ≢ n
unlike w m n x r q p there on e same = true≢false
    (sym (same_is p) ∙ ap (λ (z : Place). is_same_place z p) (sym (one_place w m n x r q p there on same)) ∙ e)

pub no_record : (r : Record) → Option.Some r ≡ None → ⊥
no_record r h = cc h

-- A termination that exists differs from one that does not exist.
pub another : (w : Registry) (m n : ℕ) (r : Record) → record_at w m ≡ Some r → record_at w n ≡ None → m ≢ n
another w m n r found none same = no_record r (sym found ∙ ap (record_at w) same ∙ none)

-- ## All members except n

-- All terminations except n have the same records and places in both registries.
abbrev pub SameOthers : Registry → Registry → ℕ → Type 0
SameOthers old new n = (m : ℕ) (r : Record) (p : Place) → m ≢ n
    → (IsOnPlace old m r p → IsOnPlace new m r p) × (IsOnPlace new m r p → IsOnPlace old m r p)

abbrev pub Others : Registry → Registry → ℕ → Type 0
Others old new n = (m : ℕ) → m ≢ n → record_at new m ≡ record_at old m

abbrev pub KeepsRooms : Registry → Registry → Type 0
KeepsRooms old new = (c : ℕ) (x y : Context) → context_at old c ≡ Some x → context_at new c ≡ Some y → y.room ≡ x.room

pub some_context : (o : Option Context) → is_some o ≡ true → (x : Context) × (o ≡ Some x)
some_context (Some x) h = (x, refl)
some_context None h = absurd (cc h)

-- If contexts keep their rooms, a member whose context and seat are unchanged keeps its place.
carried : (old new : Registry) (m : ℕ) (r q : Record) (p : Place) → IsSound new → KeepsRooms old new →
    record_at new m ≡ Some q → q.context ≡ r.context → q.seat ≡ r.seat → IsOnPlace old m r p → IsOnPlace new m q p
carried old new m r q p sound keeps found context seat on =
    let a = at old r p on.place in
    let (y, there) = some_context (context_at new q.context) (sound.there m q found) in
    let room = a.room ∙ sym (keeps r.context a.context y a.found (ap (context_at new) (sym context) ∙ there)) in
    let is : seated q.seat y ≡ p = λ i. record { room = sym room i; seat = sym (a.seat ∙ sym seat) i } in
    record { found = found; place = ap (option_map (seated q.seat)) there ∙ ap place is }

pub same_others : (old new : Registry) (n : ℕ) → IsSound old → IsSound new → KeepsRooms old new →
    Others old new n → SameOthers old new n
same_others old new n before after keeps others m r p apart =
    let back : KeepsRooms new old = λ c x y a b. sym (keeps c y x b a) in (
      λ on. carried old new m r r p after keeps (others m apart ∙ on.found) refl refl on,
      λ on. carried new old m r r p before back (sym (others m apart) ∙ on.found) refl refl on,
    )

-- If contexts keep their rooms and members their seats, a termination with a new record in the same context is still at
-- the same place.
pub stayed_at : (old new : Registry) (n : ℕ) (r q : Record) (p : Place) → IsSound old → Lasts old new →
    record_at old n ≡ Some r → q.context ≡ r.context → IsOnPlace new n q p → IsOnPlace old n r p
stayed_at old new n r q p sound lasts was context on =
    carried new old n q r p sound (λ c x y a b. sym (lasts.room c y x b a)) was (sym context)
    (sym (lasts.seat n r q was on.found context)) on

-- The table contains all members except n, and no other members.
pub record HasOthers (w : Registry) (n : ℕ) (table : List RoomFlows) : Type 0 where
  pub each : (m : ℕ) (r : Record) (p : Place) → m ≢ n → IsOnPlace w m r p → SaysOf table r p
  pub nobody : (p : Place) → IsTrue (holds table p) → (m : ℕ) × (r : Record) × (m ≢ n) × IsOnPlace w m r p

-- The table and the edits agree on who hears whom among the members other than n.
abbrev pub HearsOthers : Registry → ℕ → List RoomFlows → List ContextEdit → Type 0
HearsOthers w n table es = (talker listener : ℕ) (t l : Record) (p q : Place) → talker ≢ n → listener ≢ n →
    ShareContext w talker listener t l p q → hears table p q ≡ may_hear es talker listener

abbrev pub Hears : Registry → List RoomFlows → List ContextEdit → Type 0
Hears w table es = (talker listener : ℕ) (t l : Record) (p q : Place) → ShareContext w talker listener t l p q →
    hears table p q ≡ may_hear es talker listener

pub carry : (old new : Registry) (n : ℕ) (table : List RoomFlows) → SameOthers old new n → HasOthers old n table →
    HasOthers new n table
carry old new n table same h = record {
  each = λ m r p apart on. h.each m r p apart ((same m r p apart).1 on);
  nobody = λ p held. let (m, r, apart, on) = h.nobody p held in (m, r, apart, (same m r p apart).0 on);
}

pub hears_carry : (old new : Registry) (n : ℕ) (table : List RoomFlows) (es : List ContextEdit) → SameOthers old new n →
    HearsOthers old n table es → HearsOthers new n table es
hears_carry old new n table es same h talker listener t l p q one two s = h talker listener t l p q one two (record {
  first = (same talker t p one).1 s.first;
  second = (same listener l q two).1 s.second;
  same = s.same;
  apart = s.apart;
})

-- If n does not exist, a table that contains all members contains all members other than n, and no others.
pub unknown : (w : Registry) (n : ℕ) (table : List RoomFlows) → record_at w n ≡ None → HasMembers w table →
    HasOthers w n table
unknown w n table none h = record {
  each = λ m r p on. h.each m r p;
  nobody = λ p held. let (m, r, on) = h.nobody p held in (m, r, another w m n r on.found none, on);
}

pub hears_some : (w : Registry) (n : ℕ) (table : List RoomFlows) (es : List ContextEdit) → Hears w table es →
    HearsOthers w n table es
hears_some w n table es h talker listener t l p q one two s = h talker listener t l p q s

-- If n does not exist, a table that contains all members other than n contains all members.
pub members_all : (w : Registry) (n : ℕ) (table : List RoomFlows) → record_at w n ≡ None → HasOthers w n table →
    HasMembers w table
members_all w n table none h = record {
  each = λ m r p on. h.each m r p (another w m n r on.found none) on;
  nobody = λ p held. let (m, r, apart, on) = h.nobody p held in (m, r, on);
}

pub hears_all : (w : Registry) (n : ℕ) (table : List RoomFlows) (es : List ContextEdit) → record_at w n ≡ None →
    HearsOthers w n table es → Hears w table es
hears_all w n table es none h talker listener t l p q s = h talker listener t l p q
    (another w talker n t s.first.found none) (another w listener n l s.second.found none) s

-- ## A table in which one place changes

module _ (old new : List RoomFlows) (p : Place) (held does_talk does_listen : Bool)
    (set : SetsPlace old new p held does_talk does_listen) where
  elsewhere : (q : Place) (r : Record) → is_same_place q p ≡ false → SaysOf old r q → SaysOf new r q
  elsewhere q r apart says = record {
    held = set.held q ∙ ap (λ (b : Bool). cond b held (holds old q)) apart ∙ says.held;
    talks = set.talkers q ∙ ap (λ (b : Bool). cond b does_talk (talks_at old q)) apart ∙ says.talks;
    listens = set.listeners q ∙ ap (λ (b : Bool). cond b does_listen (listens_at old q)) apart ∙ says.listens;
  }

  held_elsewhere : (q : Place) → is_same_place q p ≡ false → IsTrue (holds new q) → IsTrue (holds old q)
  held_elsewhere q apart h = sym (set.held q ∙ ap (λ (b : Bool). cond b held (holds old q)) apart) ∙ h

  held_here : holds new p ≡ held
  held_here = set.held p ∙ ap (λ (b : Bool). cond b held (holds old p)) (same_is p)

-- The table contains the other members, and the place of n is set to the mode of n.
module _ (w : Registry) (n : ℕ) (r : Record) (p : Place) (old new : List RoomFlows) (sound : IsSound w)
    (on : IsOnPlace w n r p) (set : SetsPlace old new p true (talks r.mode) (listens r.mode))
    (each : (m : ℕ) (x : Record) (q : Place) → m ≢ n → IsOnPlace w m x q → SaysOf old x q)
    (nobody : (q : Place) → is_same_place q p ≡ false → IsTrue (holds old q) →
    (m : ℕ) × (x : Record) × IsOnPlace w m x q) where
  set_says : (m : ℕ) (x : Record) (q : Place) → IsOnPlace w m x q → (b : Bool) → eqb m n ≡ b → SaysOf new x q
  set_says m x q there true e =
      let same = eqb-true m n e in
      rw (one_place w m n x r q p there on same, one_record w m n x r there.found on.found same) (record {
        held = held_here old new p true _ _ set;
        talks = set.talkers p ∙ ap (λ (b : Bool). cond b (talks r.mode) (talks_at old p)) (same_is p);
        listens = set.listeners p ∙ ap (λ (b : Bool). cond b (listens r.mode) (listens_at old p)) (same_is p);
      })
  set_says m x q there false e =
      let apart = unequal m n e in
      elsewhere old new p true _ _ set q x (apart_places w m n x r q p sound there on apart)
      (each m x q apart there)

  set_nobody : (q : Place) → IsTrue (holds new q) → (b : Bool) → is_same_place q p ≡ b →
      (m : ℕ) × (x : Record) × IsOnPlace w m x q
  set_nobody q held true e = (n, r, subst (λ (z : Place). IsOnPlace w n r z) (sym (is_place q p e)) on)
  set_nobody q held false e = nobody q e (held_elsewhere old new p true _ _ set q e held)

  has_set : HasMembers w new
  has_set = record {
    each = λ m x q there. set_says m x q there (eqb m n) refl;
    nobody = λ q held. set_nobody q held (is_same_place q p) refl;
  }

-- ## A member leaves

module _ (w : Registry) (n : ℕ) (r : Record) (p : Place) (old new : List RoomFlows) (sound : IsSound w)
    (on : IsOnPlace w n r p) (left : Leaves old new p) where
  left_nobody : HasMembers w old → (q : Place) → IsTrue (holds new q) → (b : Bool) → is_same_place q p ≡ b →
      (m : ℕ) × (x : Record) × (m ≢ n) × IsOnPlace w m x q
  left_nobody h q held true e = absurd (true≢false
      (sym held ∙ ap (holds new) (is_place q p e) ∙ held_here old new p false false false left.place))
  left_nobody h q held false e =
      let (m, x, there) = h.nobody q (held_elsewhere old new p false false false left.place q e held) in
      (m, x, unlike w m n x r q p there on e, there)

  pub has_left : HasMembers w old → HasOthers w n new
  has_left h = record {
    each = λ m x q apart there. elsewhere old new p false false false left.place q x
        (apart_places w m n x r q p sound there on apart) (h.each m x q there);
    nobody = λ q held. left_nobody h q held (is_same_place q p) refl;
  }

  pub hears_left : (es : List ContextEdit) → Hears w old es → HearsOthers w n new es
  hears_left es h talker listener t l a b one two s =
      let first = apart_places w talker n t r a p sound s.first on one in
      let second = apart_places w listener n l r b p sound s.second on two in
      rw (left.hears a b, first, second) (h talker listener t l a b s)

-- ## A member enters

pub free_place : (w : Registry) (n : ℕ) (r : Record) (p : Place) (table : List RoomFlows) → IsSound w →
    HasOthers w n table → IsOnPlace w n r p → IsFalse (holds table p)
free_place w n r p table sound h on = false_from_ne_true (holds table p) (λ e.
    let (m, x, apart, there) = h.nobody p e in
    true≢false (sym (same_is p) ∙ apart_places w m n x r p p sound there on apart))

module _ (w : Registry) (n : ℕ) (r : Record) (p : Place) (old new : List RoomFlows) (sound : IsSound w)
    (on : IsOnPlace w n r p) (represents : Enters old new p r.mode) (h : HasOthers w n old) where
  pub has_entered : HasMembers w new
  has_entered = has_set w n r p old new sound on represents.place h.each
      (λ q e held. let (m, x, apart, there) = h.nobody q held in (m, x, there))

  together : (talker listener : ℕ) (t l : Record) (a b : Place) → ShareContext w talker listener t l a b →
      are_together (holds new) a b ≡ true
  together talker listener t l a b s = rw (
    (has_entered.each talker t a s.first).held,
    (has_entered.each listener l b s.second).held,
    eq-eqb a.room b.room (in_one_room w t l a b s.first.place s.second.place s.same),
    seats_differ w talker listener t l a b sound s,
  ) refl

  -- A member is at the newcomer's place if and only if it is the newcomer.
  is_newcomer : (m : ℕ) (x : Record) (q : Place) → IsOnPlace w m x q → (b : Bool) → eqb m n ≡ b → is_same_place q p ≡ b
  is_newcomer m x q there true e = rw (one_place w m n x r q p there on (eqb-true m n e)) (same_is p)
  is_newcomer m x q there false e = apart_places w m n x r q p sound there on (unequal m n e)

  pair : (es : List ContextEdit) → HearsOthers w n old es → (talker listener : ℕ) (t l : Record) (a b : Place) →
      ShareContext w talker listener t l a b → (x y : Bool) → eqb talker n ≡ x → eqb listener n ≡ y →
      cond (x || y) (are_together (holds new) a b) (hears old a b) ≡ cond (x || y) true (may_hear es talker listener)
  pair es k talker listener t l a b s true y e f = together talker listener t l a b s
  pair es k talker listener t l a b s false true e f = together talker listener t l a b s
  pair es k talker listener t l a b s false false e f =
      k talker listener t l a b (unequal talker n e) (unequal listener n f) s

  pub hears_entered : (es : List ContextEdit) → HearsOthers w n old es → Hears w new (Enter n ∷ es)
  hears_entered es k talker listener t l a b s =
      let first = is_newcomer talker t a s.first (eqb talker n) refl in
      let second = is_newcomer listener l b s.second (eqb listener n) refl in
      rw (represents.hears a b, first, second)
      (pair es k talker listener t l a b s (eqb talker n) (eqb listener n) refl refl)

-- ## A member's mode changes

module _ (old new : Registry) (n : ℕ) (was r : Record) (p : Place) (before after : List RoomFlows) (sound : IsSound new)
    (same : SameOthers old new n) (there : IsOnPlace old n was p) (on : IsOnPlace new n r p)
    (context : was.context ≡ r.context) (taken : TakesMode before after p r.mode) where
  pub has_mode : HasMembers old before → HasMembers new after
  has_mode h = has_set new n r p before after sound on taken.place
      (λ m x q apart is. h.each m x q ((same m x q apart).1 is))
      (λ q e held. let (m, x, is) = h.nobody q held in
      (m, x, (same m x q (unlike old m n x was q p is there e)).0 is))

  -- Each member was at the same place before, in the same context, but its record may have changed.
  stayed_by : (m : ℕ) (x : Record) (q : Place) → IsOnPlace new m x q → (b : Bool) → eqb m n ≡ b →
      (y : Record) × IsOnPlace old m y q × (y.context ≡ x.context)
  stayed_by m x q is true e =
      let at_n = eqb-true m n e in (
        was,
        rw (one_place new m n x r q p is on at_n, at_n) there,
        context ∙ ap (λ (y : Record). y.context) (sym (one_record new m n x r is.found on.found at_n)),
      )
  stayed_by m x q is false e = (x, (same m x q (unequal m n e)).1 is, refl)

  pub hears_mode : (es : List ContextEdit) → Hears old before es → Hears new after es
  hears_mode es h talker listener t l a b s =
      let (x, first, from) = stayed_by talker t a s.first (eqb talker n) refl in
      let (y, second, to) = stayed_by listener l b s.second (eqb listener n) refl in
      taken.hears a b ∙ h talker listener x y a b
      (record { first = first; second = second; same = from ∙ s.same ∙ sym to; apart = s.apart })

-- ## A new gateway has no members

none_found : (w : Registry) (limits : Limits) (n : ℕ) (r : Record) → w ≡ start_of limits → record_at w n ≡ Some r → ⊥
none_found w limits n r e found = no_record r (sym found ∙ ap (λ (x : Registry). record_at x n) e)

pub has_nobody : (w : Registry) (limits : Limits) (table : List RoomFlows) → w ≡ start_of limits →
    flow.StandsFor table [] → HasMembers w table
has_nobody w limits table e stands = record {
  each = λ n r p on. absurd (none_found w limits n r e on.found);
  nobody = λ p held. absurd (true≢false (sym held ∙ (stands.topologies p.room).seats p.seat));
}

pub nobody_seated : (w : Registry) (limits : Limits) (seating : List ℕ) → w ≡ start_of limits → AreSeated w seating
nobody_seated w limits seating e n r p on = absurd (none_found w limits n r e on.found)

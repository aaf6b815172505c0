-- Properties that each successful command leaves unchanged.
use Rattle.mg_rooms.proofs.Common.{◌≡◌, ℕ, ◌≤◌, false, List, [], ◌∷◌, ◌++◌, Option, Some, None, refl, sym, ◌∙◌, ap, subst, arith, inl, inr, ◌==◌, find, option_and_then, count_by, cases_Bool, eqb-true, ne_eqb, Record, Context, EntryPlace, Target, without, change, removed, left, with_members, Registry, record_at, context_at, IsTermination, AreContexts, IsConsistent}
use Rattle.std.proofs.lemmas.Bool.Decides.{nat_tests}
use Rattle.mg_rooms.specs.Changes.{inserted, replaced, entered}
use Rattle.mg_rooms.specs.aids.Entering.{entered_at}
use Rattle.mg_rooms.specs.aids.Lasting.{Lasts, LeavesOthers}
use Rattle.mg_rooms.proofs.CountLemmas.{count-zero, find-none, find-push_some, find-push_none, find-push_other, find-change_other, find-change_same}
use Rattle.mg_rooms.proofs.ListsLemmas.{Keeps, keeps-number, keeps_left}
use Rattle.mg_rooms.proofs.OutcomeLemmas.{Added, Modified, Moved, Subtracted}
use Rattle.mg_rooms.proofs.ConsistentLemmas.{existing_context, entered_ok}

-- ## Terminations

pub record_replaced : (w : Registry) (r : Record) (m : ℕ) → (r.number == m) ≡ false →
    record_at (replaced w r) m ≡ record_at w m
record_replaced w r m ne = find-change_other (λ x. x.number) r.number m (λ _. Some r) w.terminations
    (λ x e. sym (eqb-true x.number r.number e)) ne

pub own_replaced : (w : Registry) (n : ℕ) (r old : Record) → IsConsistent w → record_at w r.number ≡ Some old →
    r.number ≡ n → record_at (replaced w r) n ≡ Some r
own_replaced w n r old h found is = rw (← is)
    (find-change_same (λ x. x.number) r.number (λ _. Some r) w.terminations (λ x e. sym (eqb-true x.number r.number e))
    (h.terminations.one_number r.number)
    ∙ ap (option_and_then (λ (_ : Record). Some r)) found)

own_removed : (w : Registry) (n : ℕ) (r : Record) → IsConsistent w → record_at w n ≡ Some r →
    record_at (removed w n) n ≡ None
own_removed w n r h found =
    find-change_same (λ x. x.number) n (λ _. None) w.terminations (λ x e. tt) (h.terminations.one_number n)
    ∙ ap (option_and_then (λ (_ : Record). None)) found

-- No termination has the next number.
pub next_is_new : (w : Registry) → IsConsistent w → record_at w w.next_termination ≡ None
next_is_new w h = find-none (λ x. x.number == w.next_termination) w.terminations
    (count-zero (IsTermination w.limits w.next_termination) (λ x. x.number == w.next_termination) w.terminations
    h.terminations.each (λ x t. ne_eqb x.number w.next_termination (λ q. omega (arith, t.below))))

pub own_inserted : (w : Registry) (r : Record) → IsConsistent w → r.number ≡ w.next_termination →
    record_at (inserted w r) r.number ≡ Some r
own_inserted w r h is =
    grind (arith, nat_tests, next_is_new w h, find-push_none (λ x. x.number == r.number) w.terminations r)

pub entered_terminations : (w : Registry) (place : EntryPlace) (n : ℕ) (made : Option ℕ) →
    (entered_at w place n made).terminations ≡ w.terminations
entered_terminations w place n None = refl
entered_terminations w place n (Some room) = refl

pub record_entered : (w : Registry) (place : EntryPlace) (n : ℕ) (made : Option ℕ) (m : ℕ) →
    record_at (entered_at w place n made) m ≡ record_at w m
record_entered w place n made m = ap (λ (rs : List Record). find (λ x. x.number == m) rs)
    (entered_terminations w place n made)

-- ## Contexts

-- If a change keeps the numbers and the rooms of contexts, each context that exists after it existed before, in the
-- same room.
changed_room : (d c : ℕ) (f : Context → Option Context) (xs : List Context) (y : Context) →
    ((z : Context) → Keeps z (f z)) → count_by (λ z. z.number == d) xs ≤ 1 →
    find (λ z. z.number == c) (change (λ z. z.number) d f xs) ≡ Some y →
    (x : Context) × (find (λ z. z.number == c) xs ≡ Some x) × (y.room ≡ x.room)
changed_room d c f xs y keeps few after =
    elim (cases_Bool (d == c)) [
      | inl e ↦
          let same = find-change_same (λ z. z.number) d f xs (λ z _. keeps-number z (f z) (keeps z)) few in
          was (find (λ z. z.number == c) xs)
          (subst (λ (k : ℕ). find (λ z. z.number == k) (change (λ z. z.number) d f xs) ≡
          option_and_then f (find (λ z. z.number == k) xs)) (eqb-true d c e) same) after
      | inr e ↦ (
        y,
        sym (find-change_other (λ z. z.number) d c f xs (λ z _. keeps-number z (f z)
            (keeps z)) e) ∙ after,
        refl,
      )
    ]
  where
    was : (o : Option Context) →
        find (λ z. z.number == c) (change (λ z. z.number) d f xs) ≡ option_and_then f o →
        find (λ z. z.number == c) (change (λ z. z.number) d f xs) ≡ Some y →
        (x : Context) × (o ≡ Some x) × (y.room ≡ x.room)
    was None same after = absurd (cc)
    was (Some x) same after = (x, refl, (subst (Keeps x) (sym same ∙ after) (keeps x)).1)

left_keeps : (n : ℕ) (x : Context) → Keeps x (with_members x (without n x.members))
left_keeps n x = keeps_left x (without n x.members)

pub context_entered : (w : Registry) (place : EntryPlace) (n : ℕ) (made : Option ℕ) (c : ℕ) →
    (place.context == c) ≡ false → context_at (entered_at w place n made) c ≡ context_at w c
context_entered w place n None c ne = find-change_other (λ x. x.number) place.context c
    (λ x. Some (record x { members = x.members ++ (n ∷ []) })) w.contexts (λ x e. refl) ne
context_entered w place n (Some room) c ne = find-push_other (λ x. x.number == c) w.contexts
    (record { number = place.context; room = room; members = n ∷ [] }) ne

context_left : (w : Registry) (d n c : ℕ) → (d == c) ≡ false → context_at (left w d n) c ≡ context_at w c
context_left w d n c ne = find-change_other (λ x. x.number) d c (λ x. with_members x (without n x.members)) w.contexts
    (λ x _. keeps-number x (with_members x (without n x.members)) (left_keeps n x)) ne

pub room_entered : (w : Registry) (place : EntryPlace) (n : ℕ) (made : Option ℕ) (c : ℕ) (x y : Context) →
    AreContexts w.limits w.next_context w.contexts → context_at w c ≡ Some x →
    context_at (entered_at w place n made) c ≡ Some y → y.room ≡ x.room
room_entered w place n (Some room) c x y h found after =
    let there = find-push_some (λ y. y.number == c) w.contexts
    (record { number = place.context; room = room; members = n ∷ [] }) x found in
    grind (arith, nat_tests, there)
room_entered w place n None c x y h found after =
    let (z, was, room) = changed_room place.context c (λ z. Some (record z { members = z.members ++ (n ∷ []) }))
    w.contexts y (λ z. (refl, refl)) (h.one_number place.context) after in
    grind arith

room_left : (w : Registry) (d n c : ℕ) (y : Context) → AreContexts w.limits w.next_context w.contexts →
    context_at (left w d n) c ≡ Some y → (x : Context) × (context_at w c ≡ Some x) × (y.room ≡ x.room)
room_left w d n c y h after = changed_room d c (λ x. with_members x (without n x.members)) w.contexts y
    (left_keeps n) (h.one_number d) after

-- ## Outcomes

-- If the termination n keeps its slot and its seat, each context keeps its room, and only n and the contexts c and d
-- change, then `Lasts` and `LeavesOthers` hold.
pub lasting : (w after : Registry) (n c d : ℕ)
    → ((m : ℕ) → (n == m) ≡ false → record_at after m ≡ record_at w m)
    → ((r s : Record) → record_at w n ≡ Some r → record_at after n ≡ Some s →
    (s.slot ≡ r.slot) × (s.context ≡ r.context → s.seat ≡ r.seat))
    → ((e : ℕ) (x y : Context) → context_at w e ≡ Some x → context_at after e ≡ Some y → y.room ≡ x.room)
    → ((e : ℕ) → (c == e) ≡ false → (d == e) ≡ false → context_at after e ≡ context_at w e)
    → Lasts w after × LeavesOthers w after n c d
lasting w after n c d others own rooms contexts = (
  record {
    slot = λ m r s a b. (stays m r s a b).0;
    seat = λ m r s a b. (stays m r s a b).1;
    room = rooms;
  },
  record {
    termination = λ m ne. others m (ne_eqb n m (λ q. ne (sym q)));
    context = λ e not_c not_d. contexts e (ne_eqb c e (λ q. not_c (sym q))) (ne_eqb d e (λ q. not_d (sym q)));
  },
)
  where
    stays : (m : ℕ) (r s : Record) → record_at w m ≡ Some r → record_at after m ≡ Some s →
        (s.slot ≡ r.slot) × (s.context ≡ r.context → s.seat ≡ r.seat)
    stays m r s a b =
        elim (cases_Bool (n == m)) [
          | inl e ↦ let is = eqb-true n m e in own r s (rw is a) (rw is b)
          | inr e ↦ grind (arith, others m e)
        ]

pub add_lasts : (w after : Registry) (target : Target) (d : Record) → IsConsistent w → Added w after target d →
    Lasts w after × LeavesOthers w after d.number d.context d.context
add_lasts w after target d h a =
    let place = a.place in
    let none : record_at w d.number ≡ None = rw a.has.number (next_is_new w h) in
    rw a.is (lasting w (entered (inserted w d) place d.number) d.number d.context d.context
    (λ m ne. record_entered (inserted w d) place d.number place.made m ∙ find-push_other (λ x.
    x.number == m) w.terminations d ne)
    (λ r s was _. absurd (cc))
    (λ e x y was is. room_entered (inserted w d) place d.number place.made e x y h.contexts was is)
    (λ e ne _. context_entered (inserted w d) place d.number place.made e (rw (← a.has.context) ne)))

pub modify_lasts : (w after : Registry) (n : ℕ) (d : Record) → IsConsistent w → Modified w after n d →
    Lasts w after × LeavesOthers w after n d.context d.context
modify_lasts w after n d h a =
    let now = own_replaced w n d a.old h a.at a.number in
    rw a.is (lasting w (replaced w d) n d.context d.context
    (λ m ne. record_replaced w d m (rw a.number ne))
    (λ r s was is. grind (arith, now, a.was, a.number, a.has.slot, a.has.seat))
    (λ e x y was is. grind arith)
    (λ e _ _. refl))

pub subtract_lasts : (w after : Registry) (n : ℕ) (d : Record) → IsConsistent w → Subtracted w after n d →
    Lasts w after × LeavesOthers w after n d.context d.context
subtract_lasts w after n d h a =
    let none = rw a.number at (own_removed w d.number d h a.at) in
    rw a.is (lasting w (left (removed w d.number) d.context d.number) n d.context d.context
    (λ m ne. find-change_other (λ x. x.number) d.number m (λ _. None) w.terminations (λ x e. tt) (rw a.number ne))
    (λ r s was is. absurd (cc))
    (λ e x y was is. grind (arith, room_left (removed w d.number) d.context d.number e y h.contexts is))
    (λ e ne _. context_left (removed w d.number) d.context d.number e ne))

pub move_lasts : (w after : Registry) (target : Target) (n : ℕ) (d : Record) → IsConsistent w →
    (a : Moved w after target n d) → Lasts w after × LeavesOthers w after n a.old.context d.context
move_lasts w after target n d h a =
    let place = a.place in
    let here = entered (replaced w d) place d.number in
    let now = record_entered (replaced w d) place d.number place.made n ∙ own_replaced w n d a.old h a.at a.number in
    let apart = a.enters.other a.old.context (existing_context w n a.old h a.was) a.outside in
    let came = entered_ok (replaced w d) place d.number place.made h.contexts h.next_context h.last_context
    a.enters.opens in
    rw a.is (lasting w (left here a.old.context d.number) n a.old.context d.context
    (λ m ne. record_entered (replaced w d) place d.number place.made m ∙ record_replaced w d m (rw a.number ne))
    (λ r s was is. grind (arith, nat_tests, now, a.was, a.number, apart, a.has.slot, a.has.context))
    (λ e x y was is.
    let (z, mid, room) = room_left here a.old.context d.number e y (rw came.limits came.contexts) is in
    room ∙ room_entered (replaced w d) place d.number place.made e x z h.contexts was mid)
    (λ e not_old not_new. context_left here a.old.context d.number e not_old ∙
    context_entered (replaced w d) place d.number place.made e (rw (← a.has.context) not_new)))

-- A registry is consistent after its next numbers are raised, and after a termination is put back.
use Rattle.mg_rooms.proofs.Common.{◌≡◌, ℕ, ◌+◌, ◌<◌, ◌≤◌, ◌&&◌, Bool, true, false, cond, List, [], ◌∷◌, ◌++◌, length, Option, Some, None, refl, sym, ◌∙◌, ap, subst, arith, inl, inr, ◌==◌, find, nat_le, nat_lt, is_none, IsSome, count_by, list_any, cases_Bool, eqb-true, eq-eqb, ltb-true, option_map, option_and_then, Record, Context, Limits, CONTEXT_LIMIT, MEMBER_LIMIT, LAST_CONTEXT, members_of, Registry, record_at, context_at, members_at, IsTermination, IsContext, AreContexts, IsConsistent}
use Rattle.std.proofs.lemmas.Bool.Decides.{nat_tests}
use Rattle.std.proofs.lemmas.Bool.{and_parts, not-true, leb-true}
use Rattle.mg_words.specs.declared.limits.TheConstants.{LAST_TERMINATION, MIN_DEPTH, MAX_DEPTH}
use Rattle.mg_rooms.specs.Consistent.{AreTerminations}
use Rattle.mg_rooms.specs.Registry.{holder_of}
use Rattle.mg_rooms.specs.aids.Lasting.{Lasts, LeavesOthers}
use Rattle.mg_rooms.specs.aids.Member.{ExistsAs}
use Rattle.mg_rooms.specs.aids.Order.{place}
use Rattle.mg_rooms.specs.aids.Restoring.{may_skip, skipped, is_within, is_free, is_open_in, may_restore, put_back, rejoined_in, restored}
use Rattle.mg_rooms.proofs.AgreeLemmas.{counted-entered}
use Rattle.mg_rooms.proofs.ConsistentLemmas.{HasEntered, after_entering, counted, entered_ok}
use Rattle.std.proofs.lemmas.Option.{same_Some}
use Rattle.mg_rooms.proofs.CountLemmas.{count-none, all-map, find-change_same}
use Rattle.mg_rooms.proofs.LastLemmas.{lasting, context_entered, room_entered}
use Rattle.mg_rooms.proofs.ListsLemmas.{members_in}
use Rattle.mg_rooms.proofs.OrderLemmas.{find-place}
use Rattle.mg_rooms.proofs.PutLemmas.{none-counted, count-place, all-place, rising-place}

-- ## The next numbers

later_termination : (limits : Limits) (next later : ℕ) (r : Record) → next ≤ later → IsTermination limits next r →
    IsTermination limits later r
later_termination limits next later r le h = record {
  from = h.from;
  below = omega (arith, le, h.below);
  slot = h.slot;
  seat = h.seat;
  deep_enough = h.deep_enough;
  not_too_deep = h.not_too_deep;
}

later_context : (limits : Limits) (next later : ℕ) (x : Context) → next ≤ later → IsContext limits next x →
    IsContext limits later x
later_context limits next later x le h =
    record { from = h.from; below = omega (arith, le, h.below); room = h.room; some = h.some; few = h.few }

pub skipped_sound : (w : Registry) (termination context : ℕ) → IsConsistent w → may_skip w termination context ≡ true →
    IsConsistent (skipped w termination context)
skipped_sound w termination context h may =
    let first = and_parts (nat_le w.next_termination termination) _ may in
    let second = and_parts (nat_le termination (LAST_TERMINATION + 1)) _ first.1 in
    let third = and_parts (nat_le w.next_context context) _ second.1 in
    let from = leb-true w.next_termination termination first.0 in
    let last = leb-true termination (LAST_TERMINATION + 1) second.0 in
    let from_context = leb-true w.next_context context third.0 in
    let last_context = leb-true context (LAST_CONTEXT + 1) third.1 in
    record {
      limits = h.limits;
      terminations = record {
        each = all-map (IsTermination w.limits w.next_termination) (IsTermination w.limits termination) w.terminations
            (λ r. later_termination w.limits w.next_termination termination r from) h.terminations.each;
        rising = h.terminations.rising;
        one_number = h.terminations.one_number;
        one_slot = h.terminations.one_slot;
        one_seat = h.terminations.one_seat;
      };
      contexts = record {
        each = all-map (IsContext w.limits w.next_context) (IsContext w.limits context) w.contexts
            (λ x. later_context w.limits w.next_context context x from_context) h.contexts.each;
        rising = h.contexts.rising;
        one_number = h.contexts.one_number;
        one_room = h.contexts.one_room;
      };
      agree = record { same = h.agree.same; as_many = h.agree.as_many };
      next_termination = omega (arith, h.next_termination, from);
      last_termination = last;
      next_context = omega (arith, h.next_context, from_context);
      last_context = last_context;
    }

-- ## The checks

none_is : {A : Type 0} (o : Option A) → is_none o ≡ true → o ≡ None
none_is None h = refl
none_is (Some x) h = absurd (cc h)

-- The context of a termination exists in the room and is not full, or it can be created there.
abbrev pub IsOpenIn : Registry → ℕ → ℕ → Option Context → Type 0
IsOpenIn w c room (Some x) = (x.room ≡ room) × (length x.members < MEMBER_LIMIT)
IsOpenIn w c room None = (w.limits.first_context ≤ c) × (c < w.next_context) × (room < CONTEXT_LIMIT) ×
    (find (λ x. x.room == room) w.contexts ≡ None)

pub record MayRestore (w : Registry) (r : Record) (room : ℕ) : Type 0 where
  pub within : IsTermination w.limits w.next_termination r
  pub number : record_at w r.number ≡ None
  pub slot : holder_of w r.slot ≡ None
  pub seat : list_any (λ x. (x.context == r.context) && (x.seat == r.seat)) w.terminations ≡ false
  pub opens : IsOpenIn w r.context room (context_at w r.context)

pub within_is : (w : Registry) (r : Record) → is_within w r ≡ true → IsTermination w.limits w.next_termination r
within_is w r may =
    let a = and_parts (nat_le w.limits.first_termination r.number) _ may in
    let b = and_parts (nat_lt r.number w.next_termination) _ a.1 in
    let c = and_parts (nat_lt r.slot w.limits.slots) _ b.1 in
    let d = and_parts (nat_lt r.seat MEMBER_LIMIT) _ c.1 in
    let e = and_parts (nat_le MIN_DEPTH r.depth) _ d.1 in
    record {
      from = leb-true w.limits.first_termination r.number a.0;
      below = ltb-true r.number w.next_termination b.0;
      slot = ltb-true r.slot w.limits.slots c.0;
      seat = ltb-true r.seat MEMBER_LIMIT d.0;
      deep_enough = leb-true MIN_DEPTH r.depth e.0;
      not_too_deep = leb-true r.depth MAX_DEPTH e.1;
    }

open_is : (w : Registry) (c room : ℕ) (o : Option Context) → is_open_in w c room o ≡ true → IsOpenIn w c room o
open_is w c room (Some x) may =
    let a = and_parts (x.room == room) _ may in
    (eqb-true x.room room a.0, ltb-true (length x.members) MEMBER_LIMIT a.1)
open_is w c room None may =
    let a = and_parts (nat_le w.limits.first_context c) _ may in
    let b = and_parts (nat_lt c w.next_context) _ a.1 in
    let d = and_parts (nat_lt room CONTEXT_LIMIT) _ b.1 in (
      leb-true w.limits.first_context c a.0,
      ltb-true c w.next_context b.0,
      ltb-true room CONTEXT_LIMIT d.0,
      none_is (find (λ x. x.room == room) w.contexts) d.1,
    )

pub may_restore_is : (w : Registry) (r : Record) (room : ℕ) → may_restore w r room ≡ true → MayRestore w r room
may_restore_is w r room may =
    let a = and_parts (is_within w r) _ may in
    let b = and_parts (is_free w r) _ a.1 in
    let c = and_parts (is_none (record_at w r.number)) _ b.0 in
    let d = and_parts (is_none (holder_of w r.slot)) _ c.1 in
    record {
      within = within_is w r a.0;
      number = none_is (record_at w r.number) c.0;
      slot = none_is (holder_of w r.slot) d.0;
      seat = not-true _ d.1;
      opens = open_is w r.context room (context_at w r.context) b.1;
    }

-- ## Terminations and contexts

terminations-put : (limits : Limits) (next : ℕ) (rs : List Record) (r : Record) → AreTerminations limits next rs →
    IsTermination limits next r → find (λ x. x.number == r.number) rs ≡ None → find (λ x. x.slot == r.slot) rs ≡ None →
    list_any (λ x. (x.context == r.context) && (x.seat == r.seat)) rs ≡ false →
    AreTerminations limits next (place (λ x. x.number) r rs)
terminations-put limits next rs r h is new slot seat =
    let no_number = none-counted (λ x. x.number == r.number) rs new in
    let no_slot = none-counted (λ x. x.slot == r.slot) rs slot in
    let no_seat = count-none (λ x. (x.context == r.context) && (x.seat == r.seat)) rs seat in
    record {
      each = all-place (λ x. x.number) (IsTermination limits next) r rs h.each is;
      rising = rising-place (λ x. x.number) r rs new h.rising;
      one_number = λ n. let parts = count-place (λ x. x.number) (λ x. x.number == n) r rs in
          grind (arith, nat_tests, eqb-true r.number n, no_number, h.one_number n);
      one_slot = λ k. let parts = count-place (λ x. x.number) (λ x. x.slot == k) r rs in
          grind (arith, nat_tests, eqb-true r.slot k, no_slot, h.one_slot k);
      one_seat = λ c s. let parts = count-place (λ x. x.number) (λ x. (x.context == c) && (x.seat == s)) r rs in
          grind (arith, nat_tests, eqb-true r.context c, eqb-true r.seat s, no_seat, h.one_seat c s);
    }

contexts-put : (limits : Limits) (next : ℕ) (xs : List Context) (x : Context) → AreContexts limits next xs →
    IsContext limits next x → find (λ y. y.number == x.number) xs ≡ None → find (λ y. y.room == x.room) xs ≡ None →
    AreContexts limits next (place (λ y. y.number) x xs)
contexts-put limits next xs x h is new free =
    let no_number = none-counted (λ y. y.number == x.number) xs new in
    let no_room = none-counted (λ y. y.room == x.room) xs free in
    record {
      each = all-place (λ y. y.number) (IsContext limits next) x xs h.each is;
      rising = rising-place (λ y. y.number) x xs new h.rising;
      one_number = λ n. let parts = count-place (λ y. y.number) (λ y. y.number == n) x xs in
          grind (arith, nat_tests, eqb-true x.number n, no_number, h.one_number n);
      one_room = λ k. let parts = count-place (λ y. y.number) (λ y. y.room == k) x xs in
          grind (arith, nat_tests, eqb-true x.room k, no_room, h.one_room k);
    }

members-put : (xs : List Context) (x : Context) (n : ℕ) → find (λ y. y.number == x.number) xs ≡ None →
    x.members ≡ n ∷ [] → (d : ℕ) → members_in (place (λ y. y.number) x xs) d ≡
    cond (x.number == d) (members_in xs d ++ (n ∷ [])) (members_in xs d)
members-put xs x n new only d =
    ap members_of (find-place (λ y. y.number) d x xs) ∙
    elim (cases_Bool (x.number == d)) [
      | inl e ↦
          let none : find (λ y. y.number == d) xs ≡ None = subst (λ (k : ℕ). find (λ y. y.number == k) xs ≡ None)
          (eqb-true x.number d e) new in
          rw (e, none) only
      | inr e ↦ rw e refl
    ]

-- A termination that is put back is the last member of its context.
rejoined : (w : Registry) (c room n : ℕ) → AreContexts w.limits w.next_context w.contexts →
    w.limits.first_context ≤ w.next_context → w.next_context ≤ LAST_CONTEXT + 1 → (o : Option Context) →
    context_at w c ≡ o → IsOpenIn w c room o → HasEntered w (rejoined_in w c room n o) c n
rejoined w c room n h from last (Some x) found opens =
    let few : length (members_at w c) < MEMBER_LIMIT = rw found opens.1 in
    let some : IsSome (context_at w c) = rw found refl in
    entered_ok w (record { context = c; seat = 0; made = None }) n None h from last (some, few)
rejoined w c room n h from last None found opens =
    let x : Context = record { number = c; room = room; members = n ∷ [] } in
    record {
      contexts = contexts-put w.limits w.next_context w.contexts x h
          (record { from = opens.0; below = opens.1; room = opens.2; some = omega arith; few = omega arith }) found
          opens.3;
      members = members-put w.contexts x n found refl;
      terminations = refl;
      limits = refl;
      next_termination = refl;
      from = from;
      last = last;
    }

has_rejoined : (w : Registry) (r : Record) (room : ℕ) → IsConsistent w → MayRestore w r room →
    HasEntered (put_back w r) (restored w r room) r.context r.number
has_rejoined w r room h may = rejoined (put_back w r) r.context room r.number h.contexts h.next_context h.last_context
    (context_at w r.context) refl may.opens

pub restored_sound : (w : Registry) (r : Record) (room : ℕ) → IsConsistent w → MayRestore w r room →
    IsConsistent (restored w r room)
restored_sound w r room h may =
    let came = has_rejoined w r room h may in
    let agree = counted-entered (members_at w) (members_at (restored w r room)) (λ p. count_by p w.terminations)
    (λ p. count_by p (put_back w r).terminations) r r.context r.number refl refl (counted w h) came.members
    (λ p. let parts = count-place (λ x. x.number) p r w.terminations in omega (arith, parts)) in
    after_entering (put_back w r) (restored w r room) r.context r.number h.limits came
    (terminations-put w.limits w.next_termination w.terminations r h.terminations may.within may.number may.slot
    may.seat)
    (record { same = agree.same; as_many = agree.as_many }) h.next_termination h.last_termination

-- ## What stays

rejoined_terminations : (w : Registry) (c room n : ℕ) (o : Option Context) →
    (rejoined_in w c room n o).terminations ≡ w.terminations
rejoined_terminations w c room n None = refl
rejoined_terminations w c room n (Some x) = refl

pub restored_terminations : (w : Registry) (r : Record) (room : ℕ) →
    (restored w r room).terminations ≡ place (λ x. x.number) r w.terminations
restored_terminations w r room = rejoined_terminations (put_back w r) r.context room r.number (context_at w r.context)

record_restored : (w : Registry) (r : Record) (room m : ℕ) → record_at (restored w r room) m ≡
    cond (r.number == m) (Some r) (record_at w m)
record_restored w r room m =
    ap (find (λ x. x.number == m)) (rejoined_terminations (put_back w r) r.context room r.number
    (context_at w r.context)) ∙
    find-place (λ x. x.number) m r w.terminations

pub own_restored : (w : Registry) (r : Record) (room : ℕ) → record_at (restored w r room) r.number ≡ Some r
own_restored w r room = record_restored w r room r.number ∙
    ap (λ (b : Bool). cond b (Some r) (record_at w r.number)) (eq-eqb r.number r.number refl)

rejoined_others : (w : Registry) (c room n e : ℕ) (o : Option Context) → (c == e) ≡ false →
    context_at (rejoined_in w c room n o) e ≡ context_at w e
rejoined_others w c room n e (Some x) ne =
    context_entered w (record { context = c; seat = 0; made = None }) n None e ne
rejoined_others w c room n e None ne =
    find-place (λ x. x.number) e (record { number = c; room = room; members = n ∷ [] }) w.contexts ∙
    ap (λ (b : Bool). cond b (Some (record { number = c; room = room; members = n ∷ [] })) (context_at w e)) ne

rejoined_room : (w : Registry) (c room n e : ℕ) (o : Option Context) (x y : Context) →
    AreContexts w.limits w.next_context w.contexts → context_at w c ≡ o → context_at w e ≡ Some x →
    context_at (rejoined_in w c room n o) e ≡ Some y → y.room ≡ x.room
rejoined_room w c room n e (Some z) x y h is was after =
    room_entered w (record { context = c; seat = 0; made = None }) n None e x y h was after
rejoined_room w c room n e None x y h is was after = elim (cases_Bool (c == e)) [
  | inl same ↦ absurd (cc (sym was ∙ subst (λ (k : ℕ). context_at w k ≡ None) (eqb-true c e same) is))
  | inr ne ↦ ap (λ (z : Context). z.room) (same_Some y x
      (sym after ∙ rejoined_others w c room n e None ne ∙ was))
]

pub restored_lasts : (w : Registry) (r : Record) (room : ℕ) → IsConsistent w → MayRestore w r room →
    Lasts w (restored w r room) × LeavesOthers w (restored w r room) r.number r.context r.context
restored_lasts w r room h may = lasting w (restored w r room) r.number r.context r.context
    (λ m ne. record_restored w r room m ∙ ap (λ (b : Bool). cond b (Some r) (record_at w m)) ne)
    (λ q s was _. absurd (cc (sym was ∙ may.number)))
    (λ e x y was is. rejoined_room (put_back w r) r.context room r.number e (context_at w r.context) x y h.contexts refl
    was is)
    (λ e ne _. rejoined_others (put_back w r) r.context room r.number e (context_at w r.context) ne)

room_rejoined : (w : Registry) (c room n : ℕ) (o : Option Context) → AreContexts w.limits w.next_context w.contexts →
    context_at w c ≡ o → IsOpenIn w c room o →
    option_map (λ x. x.room) (context_at (rejoined_in w c room n o) c) ≡ Some room
room_rejoined w c room n (Some x) h is opens =
    ap (option_map (λ x. x.room)) (find-change_same (λ x. x.number) c
    (λ x. Some (record x { members = x.members ++ (n ∷ []) })) w.contexts (λ x e. refl) (h.one_number c)) ∙
    ap (λ (o : Option Context). option_map (λ x. x.room)
    (option_and_then (λ (x : Context). Some (record x { members = x.members ++ (n ∷ []) })) o)) is ∙ ap Some opens.0
room_rejoined w c room n None h is opens =
    let x : Context = record { number = c; room = room; members = n ∷ [] } in
    ap (option_map (λ x. x.room)) (find-place (λ x. x.number) c x w.contexts ∙
    ap (λ (b : Bool). cond b (Some x) (context_at w c)) (eq-eqb c c refl))

pub restored_as : (w : Registry) (r : Record) (room : ℕ) → IsConsistent w → MayRestore w r room →
    ExistsAs (restored w r room) r.number (record { «record» = r; room = room })
restored_as w r room h may = record {
  found = own_restored w r room;
  room = room_rejoined (put_back w r) r.context room r.number (context_at w r.context) h.contexts refl may.opens;
}

nothing_changed : (w : Registry) (n c : ℕ) → Lasts w w × LeavesOthers w w n c c
nothing_changed w n c = (
  record {
    slot = λ m r s was is. ap (λ (x : Record). x.slot) (same_Some s r (sym is ∙ was));
    seat = λ m r s was is _. ap (λ (x : Record). x.seat) (same_Some s r (sym is ∙ was));
    room = λ e x y was is. ap (λ (z : Context). z.room) (same_Some y x (sym is ∙ was));
  },
  record { termination = λ m _. refl; context = λ e _ _. refl },
)

-- The registry after an attempt to put a termination back.
pub record Tries (w after : Registry) (r : Record) (room : ℕ) (done : Bool) : Type 0 where
  pub consistent : IsConsistent after
  pub member : done ≡ true → ExistsAs after r.number (record { «record» = r; room = room })
  pub lasts : Lasts w after
  pub others : LeavesOthers w after r.number r.context r.context

pub tries : (w after : Registry) (r : Record) (room : ℕ) (done : Bool) → IsConsistent w →
    done ≡ may_restore w r room → after ≡ cond done (restored w r room) w → Tries w after r room done
tries w after r room true h may is =
    let can = may_restore_is w r room (sym may) in
    let stays = restored_lasts w r room h can in
    rw is (record {
      consistent = restored_sound w r room h can;
      member = λ _. restored_as w r room h can;
      lasts = stays.0;
      others = stays.1;
    })
tries w after r room false h may is =
    let stays = nothing_changed w r.number r.context in
    rw is (record { consistent = h; member = λ e. absurd (cc e); lasts = stays.0; others = stays.1 })

pub skips : (w after : Registry) (termination context : ℕ) (done : Bool) → IsConsistent w →
    done ≡ may_skip w termination context → after ≡ cond done (skipped w termination context) w → IsConsistent after
skips w after termination context true h may is = rw is (skipped_sound w termination context h (sym may))
skips w after termination context false h may is = rw is h

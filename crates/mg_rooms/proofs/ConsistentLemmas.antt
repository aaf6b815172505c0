-- Each successful command on a consistent registry results in a consistent registry.
use Rattle.mg_rooms.proofs.Common.{◌≡◌, ℕ, ◌+◌, ◌<◌, ◌≤◌, ◌&&◌, Bool, cond, not, List, [], ◌∷◌, ◌++◌, length, Option, Some, None, refl, sym, ◌∙◌, ap, subst, arith, ◌==◌, find, option_and_then, IfSome, IsSome, count_by, list_any, range_with_len, eqb-true, eq-eqb, Record, Context, EntryPlace, Target, Limits, CONTEXT_LIMIT, MEMBER_LIMIT, LAST_CONTEXT, without, change, removed, left, with_members, Registry, record_at, context_at, members_at, members_of, IsTermination, IsContext, AreContexts, IsConsistent}
use Rattle.std.proofs.lemmas.Bool.Decides.{nat_tests}
use Rattle.std.proofs.Common.{length-append}
use Rattle.std.proofs.lemmas.Bool.{and_parts, and_from, not-true}
use Rattle.mg_words.specs.declared.limits.TheConstants.{LAST_TERMINATION}
use Rattle.mg_rooms.specs.Limits.{AreValidLimits}
use Rattle.mg_rooms.specs.Record.{fresh, at_place}
use Rattle.mg_rooms.specs.Changes.{inserted, replaced, entered}
use Rattle.mg_rooms.specs.aids.Entering.{entered_at}
use Rattle.mg_rooms.specs.Registry.{start_of}
use Rattle.mg_rooms.specs.Consistent.{AreTerminations, Agree}
use Rattle.mg_rooms.proofs.OrderLemmas.{found_key}
use Rattle.mg_rooms.proofs.RisingLemmas.{rising-none}
use Rattle.mg_rooms.proofs.TableLemmas.{find_in_range}
use Rattle.mg_rooms.proofs.CountLemmas.{one, one-false, one-le, count-push, count-none, count-weaker, count-found, count-change_some, count-change_none, all-found, find-none}
use Rattle.mg_rooms.proofs.AgreeLemmas.{length-without-le, Counted, counted-entered, counted-left}
use Rattle.mg_rooms.proofs.ListsLemmas.{terminations-push, terminations-changed, terminations-removed, no_next_context, contexts-push, contexts-changed, keeps_left, members-made, members-changed}
use Rattle.mg_rooms.proofs.OutcomeLemmas.{found_number, HasSettings, IsOpen, HasSeat, Added, Modified, Moved, Subtracted}

-- ## Places

-- The lowest free number is below the limit, and no item has it.
free_is : {A : Type 0} (test : A → ℕ → Bool) (xs : List A) (n k : ℕ) →
    find (λ s. not (list_any (λ x. test x s) xs)) (range_with_len 0 n) ≡ Some k → (k < n) ×
    (count_by (λ x. test x k) xs ≡ 0)
free_is test xs n k h =
    let (passed, below, above) = find_in_range (λ s. not (list_any (λ x. test x s) xs)) 0 n k h in
    (omega arith, count-none (λ x. test x k) xs (not-true (list_any (λ x. test x k) xs) passed))

-- The seat that a termination takes is free.
pub seat_free : (w : Registry) (c seat : ℕ) (made : Option ℕ) → IsConsistent w → IsOpen w c made →
    HasSeat w c seat made → (seat < MEMBER_LIMIT) × (count_by (λ r. (r.context == c) && (r.seat == seat)) w.terminations ≡ 0)
seat_free w c seat None h opens has = free_is (λ r s. (r.context == c) && (r.seat == s)) w.terminations MEMBER_LIMIT seat has
seat_free w c seat (Some room) h opens has =
    let none : members_at w c ≡ [] = ap members_of (find_next w c h opens.0) in
    let size : length (members_at w c) ≡ 0 = ap length none in
    let many = h.agree.as_many c in
    let fewer = count-weaker (λ r. (r.context == c) && (r.seat == seat)) (λ r. r.context == c) w.terminations
    (λ r e. (and_parts (r.context == c) (r.seat == seat) e).0) in
    (omega arith, omega arith)
  where
    find_next : (w : Registry) (c : ℕ) → IsConsistent w → c ≡ w.next_context → context_at w c ≡ None
    find_next w c h is = find-none (λ x. x.number == c) w.contexts
        (rw is (no_next_context w.limits w.next_context w.contexts h.contexts))

-- ## Entering and leaving

-- In the new registry, n is an additional member of the context c.
pub record HasEntered (w after : Registry) (c n : ℕ) : Type 0 where
  pub contexts : AreContexts w.limits after.next_context after.contexts
  pub members : (d : ℕ) → members_at after d ≡ cond (c == d) (members_at w d ++ (n ∷ [])) (members_at w d)
  pub terminations : after.terminations ≡ w.terminations
  pub limits : after.limits ≡ w.limits
  pub next_termination : after.next_termination ≡ w.next_termination
  pub from : w.limits.first_context ≤ after.next_context
  pub last : after.next_context ≤ LAST_CONTEXT + 1

joined-few : (limits : Limits) (next n : ℕ) (x : Context) → length x.members < MEMBER_LIMIT → IsContext limits next x →
    IsContext limits next (record x { members = x.members ++ (n ∷ []) })
joined-few limits next n x few h =
    let size = length-append x.members (n ∷ []) in
    record { from = h.from; below = h.below; room = h.room; some = omega arith; few = omega arith }

pub entered_ok : (w : Registry) (place : EntryPlace) (n : ℕ) (made : Option ℕ) →
    AreContexts w.limits w.next_context w.contexts → w.limits.first_context ≤ w.next_context →
    w.next_context ≤ LAST_CONTEXT + 1 → IsOpen w place.context made →
    HasEntered w (entered_at w place n made) place.context n
entered_ok w place n (Some room) h from last (next, below, free) =
    let (under, unheld) = free_is (λ x k. x.room == k) w.contexts CONTEXT_LIMIT room free in
    record {
      contexts = grind (arith, nat_tests, contexts-push w.limits w.next_context w.contexts);
      members = members-made w.limits w.next_context w.contexts
          (record { number = place.context; room = room; members = n ∷ [] }) n h next refl;
      terminations = refl;
      limits = refl;
      next_termination = refl;
      from = omega arith;
      last = omega arith;
    }
entered_ok w place n None h from last (some, few) = record {
  contexts = let changed = contexts-changed w.limits w.next_context place.context in
      grind (arith, nat_tests, changed, joined-few w.limits w.next_context n);
  members = members-changed w.limits w.next_context place.context
      (λ x. Some (record x { members = x.members ++ (n ∷ []) })) (λ ms. ms ++ (n ∷ [])) w.contexts h
      (λ x. (refl, refl)) (λ o is found. both o (subst (λ (p : Option Context). IsSome p) found some));
  terminations = refl;
  limits = refl;
  next_termination = refl;
  from = from;
  last = last;
}
  where
    both : (o : Option Context) → IsSome o → members_of
        (option_and_then (λ (x : Context). Some (record x { members = x.members ++ (n ∷ []) })) o) ≡ members_of o ++
        (n ∷ [])
    both None is = absurd (cc)
    both (Some x) is = refl

-- In the new registry, n has been removed from the members of the context c.
pub record HasLeft (w after : Registry) (c n : ℕ) : Type 0 where
  pub contexts : AreContexts w.limits after.next_context after.contexts
  pub members : (d : ℕ) → members_at after d ≡ cond (c == d) (without n (members_at w d)) (members_at w d)

fewer_left : (limits : Limits) (next : ℕ) (x : Context) (ms : List ℕ) → length ms ≤ length x.members →
    IsContext limits next x → IfSome (with_members x ms) (IsContext limits next)
fewer_left limits next x [] le h = tt
fewer_left limits next x (m ∷ ms) le h = let few = h.few in
    record { from = h.from; below = h.below; room = h.room; some = omega arith; few = omega arith }

members-with : (x : Context) (ms : List ℕ) → members_of (with_members x ms) ≡ ms
members-with x [] = refl
members-with x (m ∷ ms) = refl

pub left_ok : (w : Registry) (c n : ℕ) → AreContexts w.limits w.next_context w.contexts → HasLeft w (left w c n) c n
left_ok w c n h = record {
  contexts = contexts-changed w.limits w.next_context c (λ x. with_members x (without n x.members)) w.contexts
      (λ x. keeps_left x (without n x.members))
      (λ x found is. fewer_left w.limits w.next_context x (without n x.members) (length-without-le n x.members) is) h;
  members = members-changed w.limits w.next_context c (λ x. with_members x (without n x.members)) (without n)
      w.contexts h (λ x. keeps_left x (without n x.members)) (λ o is found. both o);
}
  where
    both : (o : Option Context) → members_of (option_and_then (λ (x : Context). with_members x (without n x.members))
        o) ≡ without n (members_of o)
    both None = refl
    both (Some x) = members-with x (without n x.members)

-- ## Outcomes

pub counted : (w : Registry) → IsConsistent w → Counted (members_at w) (λ p. count_by p w.terminations)
counted w h = record { same = h.agree.same; as_many = h.agree.as_many }

pub start_sound : (limits : Limits) → limits.first_termination ≤ LAST_TERMINATION → AreValidLimits limits →
    IsConsistent (start_of limits)
start_sound limits last h = record {
  limits = h;
  terminations = record {
    each = tt;
    rising = rising-none (λ x. x.number);
    one_number = λ n. omega arith;
    one_slot = λ n. omega arith;
    one_seat = λ c n. omega arith;
  };
  contexts = record {
    each = tt;
    rising = rising-none (λ x. x.number);
    one_number = λ n. omega arith;
    one_room = λ n. omega arith;
  };
  agree = record { same = λ c n. refl; as_many = λ c. refl };
  next_termination = omega arith;
  last_termination = omega arith;
  next_context = omega arith;
  last_context = let few = h.1.few_contexts in omega arith;
}

-- The number of a termination's context is below the next context number.
pub existing_context : (w : Registry) (n : ℕ) (r : Record) → IsConsistent w → record_at w n ≡ Some r →
    r.context < w.next_context
existing_context w n r h found =
    let many = h.agree.as_many r.context in
    let one_at_least = count-found (λ x. x.context == r.context) (λ x. x.number == n) w.terminations r found
    (eq-eqb r.context r.context refl) in
    at (context_at w r.context) refl many one_at_least
  where
    at : (o : Option Context) → context_at w r.context ≡ o →
        length (members_at w r.context) ≡ count_by (λ x. x.context == r.context) w.terminations →
        1 ≤ count_by (λ x. x.context == r.context) w.terminations → r.context < w.next_context
    at None is many more = grind arith
    at (Some x) is many more =
        let key = eqb-true x.number r.context (found_key (λ y. y.number == r.context) w.contexts x is) in
        let within = all-found (IsContext w.limits w.next_context) (λ y. y.number == r.context) w.contexts x
        h.contexts.each is in
        grind (arith, key, within)

-- A termination is counted among the records of its context.
pub inside : (w : Registry) (c n : ℕ) (r : Record) → record_at w n ≡ Some r → r.context ≡ c →
    1 ≤ count_by (λ x. (x.context == c) && (x.number == n)) w.terminations
inside w c n r found is = count-found (λ x. (x.context == c) && (x.number == n)) (λ x. x.number == n)
    w.terminations r found (and_from (r.context == c) (r.number == n) (eq-eqb r.context c is)
    (eq-eqb r.number n (found_number w n r found)))

pub found_termination : (w : Registry) (n : ℕ) (r : Record) → IsConsistent w → record_at w n ≡ Some r →
    IsTermination w.limits w.next_termination r
found_termination w n r h found = all-found (IsTermination w.limits w.next_termination) (λ x. x.number == n)
    w.terminations r h.terminations.each found

-- Settings keep a termination within the limits.
settled : (limits : Limits) (next : ℕ) (old r : Record) → HasSettings old r → IsTermination limits next old →
    IsTermination limits next r
settled limits next old r has h = grind arith

-- Replacing a record does not change a count if the test gives the same result for both records.
same_count : (p : Record → Bool) (rs : List Record) (r old : Record) →
    find (λ x. x.number == r.number) rs ≡ Some old → one (p r) ≡ one (p old) →
    count_by p (change (λ x. x.number) r.number (λ _. Some r) rs) ≡ count_by p rs
same_count p rs r old at bits = grind (arith, count-change_some (λ x. x.number) p r.number r rs old)

pub modify_sound : (w after : Registry) (n : ℕ) (d : Record) → IsConsistent w → Modified w after n d →
    IsConsistent after
modify_sound w after n d h a =
    let has = a.has in
    rw a.is (record {
      limits = h.limits;
      terminations = terminations-changed w.limits w.next_termination w.terminations a.old d h.terminations a.at
          (settled w.limits w.next_termination a.old d has (found_termination w n a.old h a.was)) has.slot
          (λ c seat. let was = h.terminations.one_seat c seat in rw (has.context, has.seat) (omega arith));
      contexts = h.contexts;
      agree = record {
        same = λ c k. h.agree.same c k ∙ sym (same_count (λ x. (x.context == c) && (x.number == k)) w.terminations
            d a.old a.at (rw (has.context, has.number) refl));
        as_many = λ c. h.agree.as_many c ∙ sym
            (same_count (λ x. x.context == c) w.terminations d a.old a.at (rw has.context refl));
      };
      next_termination = h.next_termination;
      last_termination = h.last_termination;
      next_context = h.next_context;
      last_context = h.last_context;
    })

pub subtract_sound : (w after : Registry) (n : ℕ) (d : Record) → IsConsistent w → Subtracted w after n d →
    IsConsistent after
subtract_sound w after n d h a =
    let gone = left_ok (removed w d.number) d.context d.number h.contexts in
    let agree = counted-left (members_at w) (members_at (left (removed w d.number) d.context d.number))
    (λ p. count_by p w.terminations) (λ p. count_by p (removed w d.number).terminations) d d.context d.number refl
    refl (counted w h) (inside w d.context d.number d a.at refl) gone.members
    (λ p. count-change_none (λ x. x.number) p d.number w.terminations d a.at) in
    rw a.is (record {
      limits = h.limits;
      terminations = terminations-removed w.limits w.next_termination d.number w.terminations d h.terminations a.at;
      contexts = gone.contexts;
      agree = record { same = agree.same; as_many = agree.as_many };
      next_termination = h.next_termination;
      last_termination = h.last_termination;
      next_context = h.next_context;
      last_context = h.last_context;
    })

pub after_entering : (w after : Registry) (c n : ℕ) → AreValidLimits w.limits → HasEntered w after c n →
    AreTerminations w.limits w.next_termination w.terminations → Agree (members_at after) w.terminations →
    w.limits.first_termination ≤ w.next_termination → w.next_termination ≤ LAST_TERMINATION + 1 → IsConsistent after
after_entering w after c n valid gone terminations agree from last = record {
  limits = rw gone.limits valid;
  terminations = rw (gone.limits, gone.next_termination, gone.terminations) terminations;
  contexts = rw gone.limits gone.contexts;
  agree = rw gone.terminations agree;
  next_termination = rw (gone.limits, gone.next_termination) from;
  last_termination = rw gone.next_termination last;
  next_context = rw gone.limits gone.from;
  last_context = gone.last;
}

pub add_sound : (w after : Registry) (target : Target) (d : Record) → IsConsistent w → Added w after target d →
    IsConsistent after
add_sound w after target d h a =
    let place = a.place in
    let has = a.has in
    let from = h.next_termination in
    let few = a.few in
    let (below, unheld) = free_is (λ x k. x.slot == k) w.terminations w.limits.slots a.slot a.unheld in
    let (under, unseated) = seat_free w place.context place.seat place.made h a.enters.opens a.enters.free in
    let came = entered_ok (inserted w d) place d.number place.made h.contexts h.next_context h.last_context
    a.enters.opens in
    let agree = counted-entered (members_at w) (members_at (entered (inserted w d) place d.number))
    (λ p. count_by p w.terminations) (λ p. count_by p (inserted w d).terminations) d place.context d.number
    has.context refl (counted w h) came.members (λ p. count-push p w.terminations d) in
    let begun : IsTermination w.limits (w.next_termination + 1) (fresh w.next_termination a.slot place) =
    record {
      from = from;
      below = omega arith;
      slot = below;
      seat = under;
      deep_enough = omega arith;
      not_too_deep = omega arith;
    } in
    rw a.is (after_entering (inserted w d) (entered (inserted w d) place d.number) place.context d.number h.limits came
    (terminations-push w.limits w.next_termination w.terminations d h.terminations
    (settled w.limits (w.next_termination + 1) (fresh w.next_termination a.slot place) d has begun) has.number
    (rw has.slot unheld) (rw (has.context, has.seat) unseated))
    (record { same = agree.same; as_many = agree.as_many }) (omega arith) (omega arith))

-- If no two terminations have the same seat in a context, this still holds after one moves to a free seat.
moved_seat : (rs : List Record) (place : EntryPlace) (old r : Record) →
    ((c seat : ℕ) → count_by (λ x. (x.context == c) && (x.seat == seat)) rs ≤ 1) →
    count_by (λ x. (x.context == place.context) && (x.seat == place.seat)) rs ≡ 0 →
    HasSettings (at_place old place) r → (c seat : ℕ) →
    count_by (λ x. (x.context == c) && (x.seat == seat)) rs + one ((r.context == c) && (r.seat == seat)) ≤ 1 +
    one ((old.context == c) && (old.seat == seat))
moved_seat rs place old r few free has c seat = grind (arith, few c seat)

pub move_sound : (w after : Registry) (target : Target) (n : ℕ) (d : Record) → IsConsistent w →
    Moved w after target n d →
    IsConsistent after
move_sound w after target n d h a =
    let old = a.old in
    let place = a.place in
    let has = a.has in
    let (under, unseated) = seat_free w place.context place.seat place.made h a.enters.opens a.enters.free in
    let came = entered_ok (replaced w d) place d.number place.made h.contexts h.next_context h.last_context
    a.enters.opens in
    let here = entered (replaced w d) place d.number in
    let gone = left_ok here old.context d.number (rw came.limits came.contexts) in
    let was = found_termination w n old h a.was in
    let within : IsTermination w.limits w.next_termination (at_place old place) = grind arith in
    let terminations = terminations-changed w.limits w.next_termination w.terminations old d h.terminations a.at
    (settled w.limits w.next_termination (at_place old place) d has within) has.slot
    (moved_seat w.terminations place old d h.terminations.one_seat unseated has) in
    let entering = counted-entered (members_at w) (members_at here) (λ p. count_by p w.terminations)
    (λ p. count_by p w.terminations + one (p d)) d place.context d.number has.context refl (counted w h) came.members
    (λ p. refl) in
    let counts = inside w old.context d.number old a.at refl in
    let leaving = counted-left (members_at here) (members_at (left here old.context d.number))
    (λ p. count_by p w.terminations + one (p d)) (λ p. count_by p (replaced w d).terminations) old old.context
    d.number refl (sym has.number) entering (omega arith) gone.members
    (λ p. count-change_some (λ x. x.number) p d.number d w.terminations old a.at) in
    rw a.is (record {
      limits = rw came.limits h.limits;
      terminations = rw (came.limits, came.next_termination, came.terminations) terminations;
      contexts = gone.contexts;
      agree = rw came.terminations (record { same = leaving.same; as_many = leaving.as_many });
      next_termination = rw (came.limits, came.next_termination) h.next_termination;
      last_termination = rw came.next_termination h.last_termination;
      next_context = rw came.limits came.from;
      last_context = came.last;
    })

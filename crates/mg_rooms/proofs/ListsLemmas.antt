-- The terminations and contexts of a gateway remain valid when one is created, changes or ends.
use Rattle.mg_rooms.proofs.Common.{◌≡◌, ℕ, ◌+◌, ◌<◌, ◌≤◌, ◌&&◌, true, cond, List, [], ◌∷◌, ◌++◌, Option, Some, None, refl, sym, ap, arith, inl, inr, ◌==◌, find, option_to_list, option_and_then, IfSome, count_by, cases_Bool, eqb-true, ne_eqb, Record, Context, Limits, change, members_of, IsTermination, IsContext, AreContexts, with_members}
use Rattle.std.proofs.lemmas.Bool.Decides.{nat_tests}
use Rattle.mg_rooms.specs.Consistent.{AreTerminations}
use Rattle.mg_rooms.proofs.OrderLemmas.{found_key, KeepsKey}
use Rattle.mg_rooms.proofs.RisingLemmas.{rising-push, rising-change}
use Rattle.mg_rooms.proofs.CountLemmas.{one, one-false, one-le, count-push, count-zero, count-change_le, count-change_some, count-change_none, all-push, all-map, all-change, all-found, find-push_some, find-push_none, find-change_other, find-change_same}

-- ## Terminations

later_termination : (limits : Limits) (next : ℕ) (r : Record) → IsTermination limits next r →
    IsTermination limits (next + 1) r
later_termination limits next r h = grind arith

pub terminations-push : (limits : Limits) (next : ℕ) (rs : List Record) (r : Record) →
    AreTerminations limits next rs → IsTermination limits (next + 1) r → r.number ≡ next
    → count_by (λ x. x.slot == r.slot) rs ≡ 0
    → count_by (λ x. (x.context == r.context) && (x.seat == r.seat)) rs ≡ 0
    → AreTerminations limits (next + 1) (rs ++ (r ∷ []))
terminations-push limits next rs r h is number slot seat = record {
  each = all-push (IsTermination limits (next + 1)) rs r
      (all-map (IsTermination limits next) (IsTermination limits (next + 1)) rs (later_termination limits next)
      h.each) is;
  rising = rising-push (λ x. x.number) next rs r
      (all-map (IsTermination limits next) (λ x. x.number < next) rs (λ x t. t.below) h.each) number h.rising;
  one_number = λ n. let parts = count-push (λ x. x.number == n) rs r in let bit = one-le (r.number == n) in
      let none = count-zero (IsTermination limits next) (λ x. x.number == n) rs h.each in
      grind (arith, nat_tests, eqb-true r.number n, none, ne_eqb, one-false (r.number == n), h.one_number n);
  one_slot = λ k. grind (arith, nat_tests, count-push (λ x. x.slot == k) rs r, eqb-true r.slot k, slot, h.one_slot k);
  one_seat = λ c s. let parts = count-push (λ x. (x.context == c) && (x.seat == s)) rs r in
      grind (arith, nat_tests, eqb-true r.context c, eqb-true r.seat s, seat, h.one_seat c s);
}

-- The terminations remain valid when one of them changes within the limits, keeps its slot, and takes no seat that
-- another termination holds.
pub terminations-changed : (limits : Limits) (next : ℕ) (rs : List Record) (old r : Record) →
    AreTerminations limits next rs → find (λ x. x.number == r.number) rs ≡ Some old → IsTermination limits next r →
    r.slot ≡ old.slot
    → ((c seat : ℕ) → count_by (λ x. (x.context == c) && (x.seat == seat)) rs +
    one ((r.context == c) && (r.seat == seat)) ≤ 1 + one ((old.context == c) && (old.seat == seat)))
    → AreTerminations limits next (change (λ x. x.number) r.number (λ _. Some r) rs)
terminations-changed limits next rs old r h found is slot seats =
    let number : old.number ≡ r.number = eqb-true old.number r.number
    (found_key (λ x. x.number == r.number) rs old found) in
    record {
      each = all-change (λ x. x.number) (IsTermination limits next) r.number (λ _. Some r) rs (λ x _ t. is) h.each;
      rising = rising-change (λ x. x.number) r.number (λ _. Some r) rs (λ x e. sym (eqb-true x.number r.number e))
          h.rising;
      one_number = λ n. let parts = count-change_some (λ x. x.number) (λ x. x.number == n) r.number r rs old found in
          let was = h.one_number n in let bits = ap (λ (k : ℕ). one (k == n)) number in omega arith;
      one_slot = λ s. let parts = count-change_some (λ x. x.number) (λ x. x.slot == s) r.number r rs old found in
          let was = h.one_slot s in let bits = ap (λ (k : ℕ). one (k == s)) (sym slot) in omega arith;
      one_seat = λ c s.
          let parts = count-change_some (λ x. x.number) (λ x. (x.context == c) && (x.seat == s)) r.number r rs old found in
          let was = seats c s in omega arith;
    }

pub terminations-removed : (limits : Limits) (next n : ℕ) (rs : List Record) (old : Record) →
    AreTerminations limits next rs → find (λ x. x.number == n) rs ≡ Some old →
    AreTerminations limits next (change (λ x. x.number) n (λ _. None) rs)
terminations-removed limits next n rs old h found = record {
  each = all-change (λ x. x.number) (IsTermination limits next) n (λ _. None) rs (λ x _ t. tt) h.each;
  rising = rising-change (λ x. x.number) n (λ _. None) rs (λ x e. tt) h.rising;
  one_number = λ k. let parts = count-change_none (λ x. x.number) (λ x. x.number == k) n rs old found in let was =
      h.one_number k in omega arith;
  one_slot = λ s. let parts = count-change_none (λ x. x.number) (λ x. x.slot == s) n rs old found in let was =
      h.one_slot s in omega arith;
  one_seat = λ c s. let parts = count-change_none (λ x. x.number) (λ x. (x.context == c) && (x.seat == s)) n rs old
      found in let was = h.one_seat c s in omega arith;
}

-- ## Contexts

later_context : (limits : Limits) (next : ℕ) (x : Context) → IsContext limits next x → IsContext limits (next + 1) x
later_context limits next x h = let below = h.below in
    record { from = h.from; below = omega arith; room = h.room; some = h.some; few = h.few }

-- No context has the next number.
pub no_next_context : (limits : Limits) (next : ℕ) (xs : List Context) → AreContexts limits next xs →
    count_by (λ x. x.number == next) xs ≡ 0
no_next_context limits next xs h = count-zero (IsContext limits next) (λ x. x.number == next) xs h.each
    (λ x t. let below = t.below in ne_eqb x.number next (λ q. omega arith))

pub contexts-push : (limits : Limits) (next : ℕ) (xs : List Context) (x : Context) → AreContexts limits next xs →
    IsContext limits (next + 1) x → x.number ≡ next → count_by (λ y. y.room == x.room) xs ≡ 0 →
    AreContexts limits (next + 1) (xs ++ (x ∷ []))
contexts-push limits next xs x h is number room = record {
  each = all-push (IsContext limits (next + 1)) xs x
      (all-map (IsContext limits next) (IsContext limits (next + 1)) xs (later_context limits next) h.each) is;
  rising = rising-push (λ y. y.number) next xs x
      (all-map (IsContext limits next) (λ y. y.number < next) xs (λ y t. t.below) h.each) number h.rising;
  one_number = λ c. let parts = count-push (λ y. y.number == c) xs x in let bit = one-le (x.number == c) in
      let none = no_next_context limits next xs h in
      grind (arith, nat_tests, eqb-true x.number c, none, one-false (x.number == c), h.one_number c);
  one_room = λ k. let parts = count-push (λ y. y.room == k) xs x in let bit = one-le (x.room == k) in
      grind (arith, nat_tests, eqb-true x.room k, one-false (x.room == k), h.one_room k);
}

-- If a context still exists after the change, its number and room are the same.
abbrev pub Keeps : Context → Option Context → Type 0
Keeps x o = IfSome o (λ y. (y.number ≡ x.number) × (y.room ≡ x.room))

pub keeps-number : (x : Context) (o : Option Context) → Keeps x o → IfSome o (λ y. y.number ≡ x.number)
keeps-number x None k = tt
keeps-number x (Some y) k = k.0

pub keeps-room : (x : Context) (o : Option Context) → Keeps x o → IfSome o (λ y. y.room ≡ x.room)
keeps-room x None k = tt
keeps-room x (Some y) k = k.1

pub keeps_left : (x : Context) (ms : List ℕ) → Keeps x (with_members x ms)
keeps_left x [] = tt
keeps_left x (m ∷ ms) = (refl, refl)

fewer_number : (c : ℕ) (x : Context) (o : Option Context) → Keeps x o →
    count_by (λ y. y.number == c) (option_to_list o) ≤ one (x.number == c)
fewer_number c x None k = omega arith
fewer_number c x (Some y) k = grind arith

fewer_room : (room : ℕ) (x : Context) (o : Option Context) → Keeps x o →
    count_by (λ y. y.room == room) (option_to_list o) ≤ one (x.room == room)
fewer_room room x None k = omega arith
fewer_room room x (Some y) k = grind arith

pub contexts-changed : (limits : Limits) (next c : ℕ) (f : Context → Option Context) (xs : List Context) →
    ((x : Context) → Keeps x (f x)) → ((x : Context) → find (λ y. y.number == c) xs ≡ Some x →
    IsContext limits next x → IfSome (f x) (IsContext limits next)) → AreContexts limits next xs →
    AreContexts limits next (change (λ x. x.number) c f xs)
contexts-changed limits next c f xs keeps is h = record {
  each = all-change (λ x. x.number) (IsContext limits next) c f xs is h.each;
  rising = rising-change (λ x. x.number) c f xs (λ x e. keeps-number x (f x) (keeps x)) h.rising;
  one_number = λ d. let was = h.one_number d in omega (
    arith,
    count-change_le (λ x. x.number) (λ x.
        x.number == d) c f xs
        (λ x. fewer_number d x (f x) (keeps x)),
  );
  one_room = λ k. let was = h.one_room k in omega (
    arith,
    count-change_le (λ x. x.number) (λ x. x.room == k) c f xs
        (λ x. fewer_room k x (f x) (keeps x)),
  );
}

-- ## Members

-- The members of the context c in a list of contexts.
abbrev pub members_in : List Context → ℕ → List ℕ
members_in xs c = members_of (find (λ x. x.number == c) xs)

-- After a context is created, its first member is its only member, and other contexts keep their members.
pub members-made : (limits : Limits) (next : ℕ) (xs : List Context) (x : Context) (n : ℕ) →
    AreContexts limits next xs → x.number ≡ next → x.members ≡ n ∷ [] → (d : ℕ) →
    members_in (xs ++ (x ∷ [])) d ≡ cond (x.number == d) (members_in xs d ++ (n ∷ [])) (members_in xs d)
members-made limits next xs x n h number members d = at (find (λ y. y.number == d) xs) refl
  where
    at : (o : Option Context) → find (λ y. y.number == d) xs ≡ o →
        members_in (xs ++ (x ∷ [])) d ≡ cond (x.number == d) (members_in xs d ++ (n ∷ [])) (members_in xs d)
    at None found = grind (arith, find-push_none (λ y. y.number == d) xs x found)
    at (Some y) found =
        let key = eqb-true y.number d (found_key (λ z. z.number == d) xs y found) in
        let within = all-found (IsContext limits next) (λ z. z.number == d) xs y h.each found in
        grind (arith, key, within, find-push_some (λ z. z.number == d) xs x y found)

other_than : (c d : ℕ) → (c == d) ≡ true → d ≡ c
other_than c d e = sym (eqb-true c d e)

-- After the context c changes, g computes its members, and other contexts keep their members.
pub members-changed : (limits : Limits) (next c : ℕ) (f : Context → Option Context) (g : List ℕ → List ℕ)
    (xs : List Context) → AreContexts limits next xs → ((x : Context) → Keeps x (f x)) →
    ((o : Option Context) → IfSome o (λ x. x.number ≡ c) → find (λ x. x.number == c) xs ≡ o →
    members_of (option_and_then f o) ≡ g (members_of o)) → (d : ℕ) →
    members_in (change (λ x. x.number) c f xs) d ≡ cond (c == d) (g (members_in xs d)) (members_in xs d)
members-changed limits next c f g xs h keeps is d =
    let keeps_key : KeepsKey (λ x. x.number) c f = λ x e. keeps-number x (f x) (keeps x) in
    elim (cases_Bool (c == d)) [
      | inl e ↦
          let same = find-change_same (λ x. x.number) c f xs keeps_key (h.one_number c) in
          let there = number_of (find (λ x. x.number == c) xs) refl in
          grind (arith, nat_tests, eqb-true c d e, same, is (find (λ x. x.number == c) xs) there)
      | inr e ↦ rw e (ap members_of (find-change_other (λ x. x.number) c d f xs keeps_key e))
    ]
  where
    number_of : (o : Option Context) → find (λ x. x.number == c) xs ≡ o → IfSome o (λ x. x.number ≡ c)
    number_of None found = tt
    number_of (Some x) found = eqb-true x.number c (found_key (λ y. y.number == c) xs x found)

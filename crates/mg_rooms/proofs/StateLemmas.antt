-- Lookups in a consistent registry.
use Rattle.mg_rooms.proofs.Common.{◌≡◌, ℕ, ◌<◌, ◌≤◌, ◌&&◌, Bool, true, false, List, [], ◌∷◌, length, get_or, Option, Some, None, refl, sym, ◌∙◌, ap, arith, inl, inr, ◌==◌, ◌↔◌, find, IsSome, IsTrue, ◌⊎◌, Ok, Err, nat_lt, nat_le, ok_or, count_by, list_any, cases_Bool, eqb-true, eq-eqb, Record, Context, CONTEXT_LIMIT, MEMBER_LIMIT, LAST_CONTEXT, NoContextLeft, new_slot, new_context, EntryPlace, ErrorNumber, Registry, record_at, context_at, members_at, free_seat, free_room, free_slot, IsTermination, IsContext, IsConsistent}
use Rattle.std.proofs.lemmas.Bool.Decides.{nat_tests}
use Rattle.std.proofs.lemmas.Bool.{and_parts, and_from, cases_lt}
use Rattle.mg_words.specs.declared.limits.TheConstants.{LAST_TERMINATION}
use Rattle.mg_words.specs.declared.error_number.ErrorNumber.TheVariants.{ContextFull, NoTerminationLeft}
use Rattle.mg_words.specs.ResultSteps.{◌>>=◌}
use Rattle.mg_rooms.specs.Results.{passes}
use Rattle.mg_rooms.specs.Outcome.{new_seat}
use Rattle.mg_rooms.specs.aids.Sound.{IsMember}
use Rattle.mg_rooms.proofs.OrderLemmas.{found_key}
use Rattle.mg_rooms.proofs.CountLemmas.{all_counted, counted_any, find-at, count-cons, count-found, count-weaker, same_found, all-found}
use Rattle.mg_rooms.proofs.OutcomeLemmas.{found_number}
use Rattle.mg_rooms.proofs.ConsistentLemmas.{found_termination}
use Rattle.mg_rooms.proofs.SeatLemmas.{seat_left}

found_context : (w : Registry) (c : ℕ) (x : Context) → context_at w c ≡ Some x → x.number ≡ c
found_context w c x h = eqb-true x.number c (found_key (λ y. y.number == c) w.contexts x h)

pub same_slot : (w : Registry) (a b : ℕ) (r s : Record) → IsConsistent w → record_at w a ≡ Some r →
    record_at w b ≡ Some s → r.slot ≡ s.slot → a ≡ b
same_slot w a b r s h at_a at_b slot =
    let same = same_found (λ x. x.slot == s.slot) (λ x. x.number == a) (λ x. x.number == b) w.terminations r s in
    grind (arith, found_number w a r, found_number w b s, same, h.terminations.one_slot s.slot)

pub same_seat : (w : Registry) (a b : ℕ) (r s : Record) → IsConsistent w → record_at w a ≡ Some r →
    record_at w b ≡ Some s → r.context ≡ s.context → r.seat ≡ s.seat → a ≡ b
same_seat w a b r s h at_a at_b context seat =
    let same = same_found (λ x. (x.context == s.context) && (x.seat == s.seat)) (λ x. x.number == a)
    (λ x. x.number == b) w.terminations r s in
    grind (arith, found_number w a r, found_number w b s, same, h.terminations.one_seat s.context s.seat)

pub same_room : (w : Registry) (c d : ℕ) (x y : Context) → IsConsistent w → context_at w c ≡ Some x →
    context_at w d ≡ Some y → x.room ≡ y.room → c ≡ d
same_room w c d x y h at_c at_d room =
    let same = same_found (λ z. z.room == y.room) (λ z. z.number == c) (λ z. z.number == d) w.contexts x y in
    grind (arith, nat_tests, found_context w c x, found_context w d y, same, h.contexts.one_room y.room)

pub termination_within : (w : Registry) (n : ℕ) (r : Record) → IsConsistent w → record_at w n ≡ Some r →
    (r.number ≡ n) × IsTermination w.limits w.next_termination r
termination_within w n r h found = (found_number w n r found, found_termination w n r h found)

-- Looking up the number of a context finds the context.
pub by_context : (w : Registry) (i : ℕ) (d : Context) → IsConsistent w → i < length w.contexts →
    context_at w (get_or w.contexts i d).number ≡ Some (get_or w.contexts i d)
by_context w i d h lt =
    let c = (get_or w.contexts i d).number in
    find-at (λ x. x.number == c) w.contexts i d lt (eq-eqb c c refl) (h.contexts.one_number c)

pub context_within : (w : Registry) (c : ℕ) (x : Context) → IsConsistent w → context_at w c ≡ Some x →
    (x.number ≡ c) × IsContext w.limits w.next_context x
context_within w c x h found = (
  found_context w c x found,
  all-found (IsContext w.limits w.next_context) (λ y. y.number == c) w.contexts x h.contexts.each found,
)

-- If at least one item passes a test, a search with the test finds an item.
counted_found : {A : Type 0} (p : A → Bool) (xs : List A) → 1 ≤ count_by p xs → (x : A) × (find p xs ≡ Some x)
counted_found p [] h = absurd (omega arith)
counted_found p (x ∷ xs) h =
    let step = count-cons p x xs in
    elim (cases_Bool (p x)) [
      | inl e ↦ (x, rw e refl)
      | inr e ↦ grind (arith, counted_found p xs)
    ]
  where
    further : {A : Type 0} (p : A → Bool) (x : A) (xs : List A) → p x ≡ false → (y : A) × (find p xs ≡ Some y) →
        (y : A) × (find p (x ∷ xs) ≡ Some y)
    further p x xs e (y, found) = (y, rw e found)

any_counted : {A : Type 0} (p : A → Bool) (xs : List A) → 1 ≤ count_by p xs → list_any p xs ≡ true
any_counted p [] h = absurd (omega arith)
any_counted p (x ∷ xs) h = grind (arith, any_counted p xs)

pub members_in : (w : Registry) (c n : ℕ) → IsConsistent w →
    IsTrue (list_any (λ m. m == n) (members_at w c)) ↔ IsMember w c n
members_in w c n h = (
  λ any. there (counted_any (λ m. m == n) (members_at w c) any),
  λ (r, found, is). listed r found is,
)
  where
    there : 1 ≤ count_by (λ m. m == n) (members_at w c) → IsMember w c n
    there more =
        let same = h.agree.same c n in
        let few = count-weaker (λ (x : Record). (x.context == c) && (x.number == n)) (λ x. x.number == n)
        w.terminations (λ x e. (and_parts (x.context == c) (x.number == n) e).1) in
        let (r, found) = counted_found (λ x. x.number == n) w.terminations (omega arith) in
        let (s, both) = counted_found (λ (x : Record). (x.context == c) && (x.number == n)) w.terminations
        (omega arith) in
        let (at_c, at_n) = and_parts (s.context == c) (s.number == n)
        (found_key (λ (x : Record). (x.context == c) && (x.number == n)) w.terminations s both) in
        let is = same_found (λ x. x.number == n) (λ x. x.number == n)
        (λ (x : Record). (x.context == c) && (x.number == n)) w.terminations r s found both
        (found_key (λ x. x.number == n) w.terminations r found) at_n (h.terminations.one_number n) in
        (r, found, ap (λ (x : Record). x.context) is ∙ eqb-true s.context c at_c)

    listed : (r : Record) → record_at w n ≡ Some r → r.context ≡ c → IsTrue (list_any (λ m. m == n) (members_at w c))
    listed r found is =
        let same = h.agree.same c n in
        let more = count-found (λ (x : Record). (x.context == c) && (x.number == n)) (λ x. x.number == n)
        w.terminations r found (and_from (r.context == c) (r.number == n) (eq-eqb r.context c is)
        (eq-eqb r.number n (found_number w n r found))) in
        any_counted (λ m. m == n) (members_at w c) (omega arith)

pub members_once : (w : Registry) (c n : ℕ) → IsConsistent w → count_by (λ m. m == n) (members_at w c) ≤ 1
members_once w c n h =
    let fewer = count-weaker (λ (x : Record). (x.context == c) && (x.number == n)) (λ x. x.number == n) w.terminations
    (λ x e. (and_parts (x.context == c) (x.number == n) e).1) in
    grind (arith, h.agree.same c n, fewer, h.terminations.one_number n)

pub is_in_a_context : (w : Registry) (n : ℕ) (r : Record) → IsConsistent w → record_at w n ≡ Some r →
    IsSome (context_at w r.context)
is_in_a_context w n r h found =
    at (context_at w r.context) refl (h.agree.as_many r.context)
    (count-found (λ x. x.context == r.context) (λ x. x.number == n) w.terminations r found
    (eq-eqb r.context r.context refl))
  where
    at : (o : Option Context) → context_at w r.context ≡ o →
        length (members_at w r.context) ≡ count_by (λ x. x.context == r.context) w.terminations →
        1 ≤ count_by (λ x. x.context == r.context) w.terminations → IsSome (context_at w r.context)
    at None is many more = grind arith
    at (Some x) is many more = rw is refl

pub seat_is_free : (w : Registry) (c : ℕ) → IsConsistent w → length (members_at w c) < MEMBER_LIMIT → IsSome (free_seat w c)
seat_is_free w c h few =
    let many = h.agree.as_many c in
    seat_left (λ r. r.context == c) (λ r. r.seat) MEMBER_LIMIT w.terminations (omega arith)

pub room_is_free : (w : Registry) → IsConsistent w → length w.contexts < CONTEXT_LIMIT → IsSome (free_room w)
room_is_free w h few = seat_left (λ _. true) (λ x. x.room) CONTEXT_LIMIT w.contexts
    (let all = all_counted (λ (_ : Context). true) w.contexts (λ x. refl) in omega arith)

-- ## Exhausted resources

pub slot_used_up : (w : Registry) → (new_slot w ≡ Err NoTerminationLeft) ↔
    ((free_slot w ≡ None) ⊎ (LAST_TERMINATION < w.next_termination))
slot_used_up w = (λ told. grind arith, λ why. grind arith)

-- If a resource is free and the error is still reported, the check on the limit has failed.
used_up : (left : Bool) (o : Option ℕ) (f : ℕ → EntryPlace) (e : ErrorNumber) → IsSome o →
    (passes left e >>= (λ _. ok_or o e >>= (λ x. Ok (f x)))) ≡ Err e → left ≡ false
used_up true None f e some told = absurd (cc)
used_up true (Some x) f e some told = absurd (cc)
used_up false o f e some told = refl

pub seat_used_up : (w : Registry) (c : ℕ) → IsConsistent w →
    (new_seat w c ≡ Err ContextFull) ↔ (MEMBER_LIMIT ≤ length (members_at w c))
seat_used_up w c h = (told, λ full. grind (arith, nat_tests))
  where
    told : new_seat w c ≡ Err ContextFull → MEMBER_LIMIT ≤ length (members_at w c)
    told e = elim (cases_lt (length (members_at w c)) MEMBER_LIMIT) [
      | inl few ↦ let none = used_up (nat_lt (length (members_at w c)) MEMBER_LIMIT) (free_seat w c)
          (λ s. record { context = c; seat = s; made = None }) ContextFull (seat_is_free w c h few) e in grind arith
      | inr many ↦ many
    ]

pub context_used_up : (w : Registry) → IsConsistent w →
    (new_context w ≡ Err NoContextLeft) ↔ ((CONTEXT_LIMIT ≤ length w.contexts) ⊎ (LAST_CONTEXT < w.next_context))
context_used_up w h = (told, λ why. grind (arith, nat_tests))
  where
    told : new_context w ≡ Err NoContextLeft → (CONTEXT_LIMIT ≤ length w.contexts) ⊎ (LAST_CONTEXT < w.next_context)
    told e = elim (cases_lt (length w.contexts) CONTEXT_LIMIT) [
      | inl few ↦ let none = used_up (nat_lt (length w.contexts) CONTEXT_LIMIT && nat_le w.next_context LAST_CONTEXT)
          (free_room w) (λ r. record { context = w.next_context; seat = 0; made = Some r }) NoContextLeft
          (room_is_free w h few) e in grind arith
      | inr many ↦ inl many
    ]

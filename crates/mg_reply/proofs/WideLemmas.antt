-- If there are more items than a reply has room for, and each is at least 10 bytes long with its comma, their text
-- exceeds the limit.
use Rattle.std.proofs.Common.{◌≡◌, ℕ, ◌+◌, ◌-◌, ◌*◌, ◌<◌, ◌≤◌, Bool, true, false, ◌&&◌, ◌||◌, not, cond, eqb, inl, inr, List, [], ◌∷◌, ◌++◌, length, refl, sym, subst, ap, ◌∙◌, append_assoc, length-append, arith, codes, decimal}
use Rattle.std.specs.Prelude.{nat_le}
use Rattle.std.specs.List.{list_all}
use Rattle.std.proofs.lemmas.Bool.{and_parts, leb-true, ne_eqb, eq-eqb, lt-ltb}
use Rattle.std.proofs.lemmas.Bool.Decides.{leb_tells}
use Rattle.std.proofs.lemmas.List.{append-nil}
use Rattle.std.proofs.lemmas.List.Folds.{list_all-append}
use Rattle.mg_words.specs.declared.context_id.ContextId.{ContextId}
use Rattle.mg_words.specs.ContextId.{context_text}
use Rattle.mg_reply.specs.declared.item.Item.{Item}
use Rattle.mg_reply.specs.declared.item.Item.TheVariants.{Triple, Command, Fault, Action}
use Rattle.mg_reply.specs.declared.entry_kind.EntryKind.TheVariants.{Triples, Commands, Faults}
use Rattle.mg_reply.specs.Listed.{listed, grouped}
use Rattle.mg_reply.specs.Entries.{item_text, texts_of, topology_entry, entries_of}
use Rattle.mg_reply.specs.Written.{action_text, actions_text, items_text, reply_text}
use Rattle.mg_reply.specs.Reply.{Answered, new_reply, is_action, last_is_action, is_refusal, marked, with_item, after_put, after_all}
use Rattle.mg_reply.specs.aids.Room.{places_of}
use Rattle.mg_reply.specs.aids.Width.{is_wide, TooLongByText, AllItemsAreKept}

-- The total length of the parts, each with a comma.
weight : List (List ℕ) → ℕ
weight [] = 0
weight (x ∷ xs) = 1 + (length x + weight xs)

listed-long : (xs : List (List ℕ)) → length (listed (codes ",") xs) ≡ weight xs
unfolding listed weight
listed-long [] = refl
listed-long (x ∷ xs) = omega (
  arith,
  length-append (codes ",") (x ++ listed (codes ",") xs),
  length-append x (listed (codes ",") xs),
  listed-long xs,
)

first-long : (mark x : List ℕ) (xs : List (List ℕ)) →
    length (listed mark (x ∷ xs)) ≡ length mark + (length x + weight xs)
unfolding listed
first-long mark x xs = omega (
  arith,
  length-append mark (x ++ listed (codes ",") xs),
  length-append x (listed (codes ",") xs),
  listed-long xs,
)

grouped-long : (xs : List (List ℕ)) → weight xs ≤ length (grouped xs)
unfolding weight
grouped-long [] = omega arith
grouped-long (x ∷ xs) = omega (
  arith,
  first-long (codes "{") x xs,
  length-append (listed (codes "{") (x ∷ xs)) (codes "}"),
)

topology-long : (xs : List (List ℕ)) → weight xs ≤ weight (topology_entry xs)
unfolding weight
topology-long [] = omega arith
topology-long (x ∷ xs) = omega (
  arith,
  first-long (codes "Topology{") x xs,
  length-append (listed (codes "Topology{") (x ∷ xs)) (codes "}"),
)

weight-append : (xs ys : List (List ℕ)) → weight (xs ++ ys) ≡ weight xs + weight ys
unfolding weight
weight-append [] ys = omega arith
weight-append (x ∷ xs) ys = omega (arith, weight-append xs ys)

-- Whether an item is an action's entry that is at least 10 bytes long with its comma.
abbrev is_part : Item → Bool
is_part (Triple a b association) = nat_le 9 (length (item_text (Triple a b association)))
is_part (Command word term outcome) = nat_le 9 (length (item_text (Command word term outcome)))
is_part (Fault e) = nat_le 9 (length (item_text (Fault e)))
is_part (Action id) = false

parts-long : (p : List Item) → list_all is_part p ≡ true →
    10 * length p ≤ weight (texts_of Triples p) + (weight (texts_of Commands p) + weight (texts_of Faults p))
unfolding weight
parts-long [] h = omega arith
parts-long (Triple a b s ∷ p) h = let two = and_parts (is_part (Triple a b s)) (list_all is_part p) h in
    omega (arith, leb-true 9 (length (item_text (Triple a b s))) two.0, parts-long p two.1)
parts-long (Command w t o ∷ p) h = let two = and_parts (is_part (Command w t o)) (list_all is_part p) h in
    omega (arith, leb-true 9 (length (item_text (Command w t o))) two.0, parts-long p two.1)
parts-long (Fault e ∷ p) h = let two = and_parts (is_part (Fault e)) (list_all is_part p) h in
    omega (arith, leb-true 9 (length (item_text (Fault e))) two.0, parts-long p two.1)
parts-long (Action id ∷ p) h = absurd cc

entries-long : (p : List Item) → list_all is_part p ≡ true → 10 * length p ≤ length (grouped (entries_of p))
entries-long p h = omega (
  arith,
  parts-long p h,
  topology-long (texts_of Triples p),
  weight-append (topology_entry (texts_of Triples p)) (texts_of Commands p ++ texts_of Faults p),
  weight-append (texts_of Commands p) (texts_of Faults p),
  grouped-long (entries_of p),
)

abbrev is_none : List Item → Bool
is_none [] = true
is_none (x ∷ xs) = false

is_none-after : (p : List Item) (y : Item) → is_none (p ++ y ∷ []) ≡ false
is_none-after [] y = refl
is_none-after (x ∷ p) y = refl

action-long : (id : ContextId) (p : List Item) →
    length (action_text id p) ≡ 8 + (length (context_text id) + length (grouped (entries_of p)))
action-long id p = omega (
  arith,
  length-append (codes "Context=") (context_text id ++ grouped (entries_of p)),
  length-append (context_text id) (grouped (entries_of p)),
)

id-some : (id : ContextId) → is_wide (Action id) ≡ true → 1 ≤ length (context_text id)
id-some id h = omega (arith, leb-true 9 (length (action_text id [])) h, action-long id [])

abbrev IsLong : List ℕ → ℕ → List Item → List Item → Type 0
IsLong mark s p xs = 10 * length p + 10 * places_of (not (is_none p)) xs ≤ length (actions_text mark p xs) + s

part-after : (p : List Item) (y : Item) → list_all is_part p ≡ true → is_part y ≡ true →
    list_all is_part (p ++ y ∷ []) ≡ true
part-after p y h e = list_all-append is_part p (y ∷ []) ∙ rw (h, e) refl

more : (mark : List ℕ) (s : ℕ) (p xs : List Item) (y : Item) → IsLong mark s (p ++ y ∷ []) xs →
    10 * length p + 10 * (1 + places_of true xs) ≤ length (actions_text mark (p ++ y ∷ []) xs) + s
more mark s p xs y h =
    let k : 10 * length (p ++ y ∷ []) + 10 * places_of true xs ≤ length (actions_text mark (p ++ y ∷ []) xs) + s =
    rw (is_none-after p y) at h in
    omega (arith, k, length-append p (y ∷ []))

actions-long : (mark : List ℕ) (s : ℕ) (p xs : List Item) → 1 ≤ length mark + s → list_all is_part p ≡ true →
    list_all is_wide xs ≡ true → last_is_action (is_none p) xs ≡ true → IsLong mark s p xs
unfolding actions_text
actions-long mark s [] [] m h w e = omega arith
actions-long mark s (x ∷ p) [] m h w e = absurd cc
actions-long mark s [] (Action id ∷ xs) m h w e =
    let two = and_parts (is_wide (Action id)) (list_all is_wide xs) w in
    let rest = actions-long (codes ",") 0 [] xs (omega arith) refl two.1 e in
    omega (
      arith,
      rest,
      id-some id two.0,
      action-long id [],
      length-append mark (action_text id [] ++ actions_text (codes ",") [] xs),
      length-append (action_text id []) (actions_text (codes ",") [] xs),
    )
actions-long mark s (y ∷ p) (Action id ∷ xs) m h w e =
    let two = and_parts (is_wide (Action id)) (list_all is_wide xs) w in
    let rest = actions-long (codes ",") 0 [] xs (omega arith) refl two.1 e in
    omega (
      arith,
      rest,
      entries-long (y ∷ p) h,
      action-long id (y ∷ p),
      length-append mark (action_text id (y ∷ p) ++ actions_text (codes ",") [] xs),
      length-append (action_text id (y ∷ p)) (actions_text (codes ",") [] xs),
    )
actions-long mark s p (Triple a b t ∷ xs) m h w e =
    let two = and_parts (is_part (Triple a b t)) (list_all is_wide xs) w in
    more mark s p xs (Triple a b t) (actions-long mark s (p ++ Triple a b t ∷ []) xs m
    (part-after p (Triple a b t) h two.0) two.1 (rw (is_none-after p (Triple a b t)) e))
actions-long mark s p (Command u t o ∷ xs) m h w e =
    let two = and_parts (is_part (Command u t o)) (list_all is_wide xs) w in
    more mark s p xs (Command u t o) (actions-long mark s (p ++ Command u t o ∷ []) xs m
    (part-after p (Command u t o) h two.0) two.1 (rw (is_none-after p (Command u t o)) e))
actions-long mark s p (Fault n ∷ xs) m h w e =
    let two = and_parts (is_part (Fault n)) (list_all is_wide xs) w in
    more mark s p xs (Fault n) (actions-long mark s (p ++ Fault n ∷ []) xs m (part-after p (Fault n) h two.0) two.1
    (rw (is_none-after p (Fault n)) e))

-- Adding an item keeps the number of the transaction. A reply that is marked as too long remains marked.
put-long : (a b : Bool) (r : Answered) (x : Item) → r.is_long ≡ true →
    (cond a (with_item r x 0) (cond b (marked r) (with_item r x 1))).is_long ≡ true
put-long true b r x h = h
put-long false true r x h = refl
put-long false false r x h = h

long-stays : (r : Answered) (xs : List Item) → r.is_long ≡ true → (after_all r xs).is_long ≡ true
long-stays r [] h = h
long-stays r (x ∷ xs) h = long-stays (after_put r x) xs (put-long (is_action x && r.has_pending) (eqb r.room 0) r x h)

put-number : (a b : Bool) (r : Answered) (x : Item) →
    (cond a (with_item r x 0) (cond b (marked r) (with_item r x 1))).number ≡ r.number
put-number true b r x = refl
put-number false true r x = refl
put-number false false r x = refl

number-stays : (r : Answered) (xs : List Item) → (after_all r xs).number ≡ r.number
number-stays r [] = refl
number-stays r (x ∷ xs) = number-stays (after_put r x) xs ∙ put-number (is_action x && r.has_pending) (eqb r.room 0) r x

-- The reply has room for all of these items, and contains them once they are put into it.
abbrev AllKept : Answered → List Item → Type 0
AllKept r xs = ((after_all r xs).is_long ≡ false) × ((after_all r xs).items ≡ r.items ++ xs)

kept-by : (r : Answered) (x : Item) (xs : List Item) (size : ℕ) → after_put r x ≡ with_item r x size →
    AllKept (with_item r x size) xs → AllKept r (x ∷ xs)
kept-by r x xs size e h =
    subst (λ (q : Answered). ((after_all q xs).is_long ≡ false) × ((after_all q xs).items ≡ r.items ++ x ∷ xs))
    (sym e) (h.0, h.1 ∙ append_assoc r.items (x ∷ []) xs)

takes : (r : Answered) (x : Item) → (is_action x && r.has_pending) ≡ false → 0 < r.room →
    after_put r x ≡ with_item r x 1
takes r x a some = rw (a, ne_eqb r.room 0 (λ e. absurd (omega arith))) refl

free : (r : Answered) (id : ContextId) → r.has_pending ≡ true → after_put r (Action id) ≡ with_item r (Action id) 0
free r id h = rw h refl

full : (r : Answered) (x : Item) → (is_action x && r.has_pending) ≡ false → r.room ≡ 0 → after_put r x ≡ marked r
full r x a none = rw (a, eq-eqb r.room 0 none) refl

action-fits : (r : Answered) (id : ContextId) (xs : List Item) (w : Bool) → r.has_pending ≡ w →
    places_of w (Action id ∷ xs) ≤ r.room → (places_of false xs ≤ r.room - 0 → AllKept (with_item r (Action id) 0) xs)
    → (places_of false xs ≤ r.room - 1 → AllKept (with_item r (Action id) 1) xs) → AllKept r (Action id ∷ xs)
action-fits r id xs true e le none one = kept-by r (Action id) xs 0 (free r id e) (none (omega arith))
action-fits r id xs false e le none one = kept-by r (Action id) xs 1 (takes r (Action id) e (omega arith))
    (one (omega arith))

fits : (r : Answered) (xs : List Item) → r.is_long ≡ false → places_of r.has_pending xs ≤ r.room → AllKept r xs
fits r [] h le = (h, sym (append-nil r.items))
fits r (Triple a b t ∷ xs) h le = kept-by r (Triple a b t) xs 1 (takes r (Triple a b t) refl (omega arith))
    (fits (with_item r (Triple a b t) 1) xs h (omega arith))
fits r (Command u t o ∷ xs) h le = kept-by r (Command u t o) xs 1 (takes r (Command u t o) refl (omega arith))
    (fits (with_item r (Command u t o) 1) xs h (omega arith))
fits r (Fault n ∷ xs) h le = kept-by r (Fault n) xs 1 (takes r (Fault n) refl (omega arith))
    (fits (with_item r (Fault n) 1) xs h (omega arith))
fits r (Action id ∷ xs) h le = action-fits r id xs r.has_pending refl le
    (λ l. fits (with_item r (Action id) 0) xs h l) (λ l. fits (with_item r (Action id) 1) xs h l)

-- These lemmas show that a reply is marked as too long if there is no room for an item.
over-by : (r : Answered) (x : Item) (xs : List Item) (q : Answered) → after_put r x ≡ q →
    (after_all q xs).is_long ≡ true → (after_all r (x ∷ xs)).is_long ≡ true
over-by r x xs q e h = subst (λ (q : Answered). (after_all q xs).is_long ≡ true) (sym e) h

over-one : (r : Answered) (x : Item) (xs : List Item) (n : ℕ) → (is_action x && r.has_pending) ≡ false →
    r.room < 1 + n → (r.room - 1 < n → (after_all (with_item r x 1) xs).is_long ≡ true) →
    (after_all r (x ∷ xs)).is_long ≡ true
over-one r x xs n a lt next =
    elim (leb_tells r.room 0) [
      | inl t ↦ over-by r x xs (marked r) (full r x a (omega (arith, t.1))) (long-stays (marked r) xs refl)
      | inr t ↦ over-by r x xs (with_item r x 1) (takes r x a (omega (arith, t.1))) (next (omega (arith, t.1)))
    ]

action-over : (r : Answered) (id : ContextId) (xs : List Item) (w : Bool) → r.has_pending ≡ w →
    r.room < places_of w (Action id ∷ xs) → (r.room - 0 < places_of false xs →
    (after_all (with_item r (Action id) 0) xs).is_long ≡ true) →
    (r.room - 1 < places_of false xs → (after_all (with_item r (Action id) 1) xs).is_long ≡ true) →
    (after_all r (Action id ∷ xs)).is_long ≡ true
action-over r id xs true e lt none one = over-by r (Action id) xs (with_item r (Action id) 0) (free r id e)
    (none (omega arith))
action-over r id xs false e lt none one = over-one r (Action id) xs (places_of false xs) e lt one

over : (r : Answered) (xs : List Item) → r.room < places_of r.has_pending xs → (after_all r xs).is_long ≡ true
over r [] lt = absurd (omega arith)
over r (Triple a b t ∷ xs) lt = over-one r (Triple a b t) xs (places_of true xs) refl lt
    (λ l. over (with_item r (Triple a b t) 1) xs l)
over r (Command u t o ∷ xs) lt = over-one r (Command u t o) xs (places_of true xs) refl lt
    (λ l. over (with_item r (Command u t o) 1) xs l)
over r (Fault n ∷ xs) lt = over-one r (Fault n) xs (places_of true xs) refl lt
    (λ l. over (with_item r (Fault n) 1) xs l)
over r (Action id ∷ xs) lt = action-over r id xs r.has_pending refl lt (λ l. over (with_item r (Action id) 0) xs l)
    (λ l. over (with_item r (Action id) 1) xs l)

-- A single error needs at most one place.
refusal-short : (xs : List Item) → is_refusal xs ≡ true → places_of false xs ≤ 1
refusal-short [] h = absurd cc
refusal-short (Triple a b t ∷ xs) h = absurd cc
refusal-short (Command u t o ∷ xs) h = absurd cc
refusal-short (Action id ∷ xs) h = absurd cc
refusal-short (Fault e ∷ []) h = omega arith
refusal-short (Fault e ∷ (x ∷ xs)) h = absurd cc

actions-are : (xs : List Item) → is_refusal xs ≡ false → items_text xs ≡ actions_text [] [] xs
actions-are [] h = refl
actions-are (Triple a b t ∷ xs) h = refl
actions-are (Command u t o ∷ xs) h = refl
actions-are (Action id ∷ xs) h = refl
actions-are (Fault e ∷ []) h = absurd cc
actions-are (Fault e ∷ (x ∷ xs)) h = refl

ends : (xs : List Item) → last_is_action false xs ≡ true → last_is_action true xs ≡ true
ends [] h = absurd cc
ends (x ∷ xs) h = h

reply-longer : (n : ℕ) (xs : List Item) → length (items_text xs) < length (reply_text n xs)
reply-longer n xs = omega (
  arith,
  length-append (codes "Reply=")
      (decimal n ++ (codes "{" ++ (items_text xs ++ codes "}"))),
  length-append (decimal n) (codes "{" ++ (items_text xs ++ codes "}")),
  length-append (codes "{") (items_text xs ++ codes "}"),
  length-append (items_text xs) (codes "}"),
)

long-text : (n : ℕ) (xs : List Item) → list_all is_wide xs ≡ true →
    (is_refusal xs || last_is_action false xs) ≡ true → 1600 < places_of false xs → 16000 < length (reply_text n xs)
long-text n xs w whole many = by_refusal (is_refusal xs) refl whole
  where
    by_refusal : (b : Bool) → is_refusal xs ≡ b → (b || last_is_action false xs) ≡ true →
        16000 < length (reply_text n xs)
    by_refusal true e h = absurd (omega (arith, refusal-short xs e))
    by_refusal false e h =
        let all = actions-long [] 1 [] xs (omega arith) refl w (ends xs h) in
        omega (arith, all, ap length (actions-are xs e), reply-longer n xs)

pub text_alone : TooLongByText
text_alone n xs w whole =
    elim (leb_tells (places_of false xs) 1600) [
      | inl t ↦
          let k = fits (new_reply n) xs refl t.1 in
          rw (k.0, k.1, number-stays (new_reply n) xs) refl
      | inr t ↦
          let long = long-text n xs w whole t.1 in
          rw (over (new_reply n) xs t.1) (sym (lt-ltb 16000 (length (reply_text n xs)) long))
    ]

pub all_there : AllItemsAreKept
all_there n xs h =
    elim (leb_tells (places_of false xs) 1600) [
      | inl t ↦ (fits (new_reply n) xs refl t.1).1
      | inr t ↦ let k = over (new_reply n) xs t.1 in absurd cc
    ]

-- Rows of intervals, one row for each listener.
use Rattle.std.proofs.Common.{◌≡◌, ℕ, eqb, ◌<◌, ◌||◌, Bool, true, false, cond, List, [], ◌∷◌, Option, Some, None, All, map, refl, sym, ap, subst, ◌∙◌, inl, inr, ◌⊎◌, arith}
use Rattle.std.specs.Prelude.{filter, find, flat_map, is_some}
use Rattle.std.specs.List.{list_any}
use Rattle.std.specs.Option.{option_map, option_map_or, option_or}
use Rattle.std.proofs.lemmas.Bool.{cases_Bool, eq-eqb, eqb-true, true≢false}
use Rattle.std.proofs.lemmas.List.Folds.{find-append}
use Rattle.mg_heard.specs.OpenFlow.{has, is_same}
use Rattle.mg_heard.specs.aids.Hearers.{AreRising, flow_between, flows_among, flows_heard, is_heard, number_of, seats_of}
use Rattle.mg_heard.specs.aids.Opening.{IsRising, beginning_among, beginning_at, continued, flows_of, key_of, without_flows}
use Rattle.mg_heard.specs.aids.Rows.{AreRows, intervals_of, listeners_of}
use Rattle.mg_heard.specs.declared.hearer.Hearer.{Hearer}
use Rattle.mg_heard.specs.declared.listener_row.ListenerRow.{ListenerRow}
use Rattle.mg_heard.specs.declared.moment.Moment.{Moment}
use Rattle.mg_heard.specs.declared.open_flow.OpenFlow.{OpenFlow}
use Rattle.mg_heard.specs.declared.open_interval.OpenInterval.{OpenInterval}
use Rattle.mg_heard.specs.declared.seated.Seated.{Seated}
use Rattle.mg_heard.proofs.Members.{In, Pairs, all_from_pairs, at_from_in, from_map, in_map, pairs_filter, pairs_from_all, pairs_map}
use Rattle.mg_heard.proofs.SameLemmas.{has_from_in, same}

-- ## A search through several lists

pub found_nowhere : {X : Type 0} (p : X → Bool) (xs : List X) → ((x : X) → In x xs → p x ≡ false) → find p xs ≡ None
found_nowhere p [] h = refl
found_nowhere p (x ∷ xs) h = rw (h x (inl refl)) (found_nowhere p xs (λ y i. h y (inr i)))

found_in_none : {X Y : Type 0} (p : Y → Bool) (f : X → List Y) (xs : List X) →
    ((x : X) → In x xs → find p (f x) ≡ None) → find p (flat_map f xs) ≡ None
found_in_none p f [] h = refl
found_in_none p f (x ∷ xs) h = find-append p (f x) (flat_map f xs)
    ∙ ap (λ o. option_or o (find p (flat_map f xs))) (h x (inl refl))
    ∙ found_in_none p f xs (λ y i. h y (inr i))

-- If a match can only be in the first list, the search finds the first list's match or nothing.
found_first : {X Y : Type 0} (p : Y → Bool) (f : X → List Y) (x : X) (xs : List X) (o : Option Y) → o ≡ find p (f x) →
    ((y : X) → In y xs → (y ≡ x) ⊎ (find p (f y) ≡ None)) → option_or o (find p (flat_map f xs)) ≡ o
found_first p f x xs (Some y) e h = refl
found_first p f x xs None e h = found_in_none p f xs (λ y i. elim (h y i) [
  | inl k ↦ ap (λ z. find p (f z)) k ∙ sym e
  | inr k ↦ k
])

-- If a match can only be in the list of `x`, the search through one more list finds the match of `x` or nothing.
found_later : {X Y : Type 0} (p : Y → Bool) (f : X → List Y) (x z : X) (xs : List X) → In x (z ∷ xs) →
    find p (f z) ≡ None → ((y : X) → In y xs → (y ≡ x) ⊎ (find p (f y) ≡ None)) →
    (In x xs → find p (flat_map f xs) ≡ find p (f x)) → find p (flat_map f xs) ≡ find p (f x)
found_later p f x z xs (inl e) k h rest =
    let none = ap (λ y. find p (f y)) e ∙ k in
    found_in_none p f xs (λ y j. elim (h y j) [
      | inl q ↦ ap (λ y. find p (f y)) q ∙ none
      | inr q ↦ q
    ]) ∙ sym none
found_later p f x z xs (inr j) k h rest = rest j

found_in_one : {X Y : Type 0} (p : Y → Bool) (f : X → List Y) (x : X) (xs : List X) → In x xs →
    ((y : X) → In y xs → (y ≡ x) ⊎ (find p (f y) ≡ None)) → find p (flat_map f xs) ≡ find p (f x)
found_in_one p f x [] i h = absurd i
found_in_one p f x (z ∷ xs) i h = find-append p (f z) (flat_map f xs) ∙ elim (h z (inl refl)) [
  | inl k ↦ ap (λ o. option_or o (find p (flat_map f xs))) (ap (λ y. find p (f y)) k)
      ∙ found_first p f x xs (find p (f x)) refl (λ y j. h y (inr j))
  | inr k ↦ ap (λ o. option_or o (find p (flat_map f xs))) k
      ∙ found_later p f x z xs i k (λ y j. h y (inr j)) (λ j. found_in_one p f x xs j (λ y q. h y (inr q)))
]

pub any_found : {X : Type 0} (p : X → Bool) (xs : List X) → list_any p xs ≡ is_some (find p xs)
any_found p [] = refl
any_found p (x ∷ xs) = any_first p x xs (p x) (any_found p xs)
  where
    any_first : {X : Type 0} (p : X → Bool) (x : X) (xs : List X) (b : Bool) → list_any p xs ≡ is_some (find p xs) →
        b || list_any p xs ≡ is_some (cond b (Some x) (find p xs))
    any_first p x xs true h = refl
    any_first p x xs false h = h

-- ## One row

unmapped : {X Y : Type 0} (R : Y → Y → Type 0) (f : X → Y) (xs : List X) → Pairs R (map f xs) →
    Pairs (λ x y. R (f x) (f y)) xs
unmapped R f [] h = tt
unmapped R f (x ∷ xs) h = (λ y i. h.0 (f y) (in_map f y xs i), unmapped R f xs h.1)

heard_rising : (hs : List Hearer) (h : Hearer) → AreRising hs →
    Pairs (λ x later. key_of x < key_of later) (flows_heard (seats_of hs) h)
heard_rising hs h up =
    let Less = λ (a b : Seated). a.party.number < b.party.number in
    pairs_map Less (λ x later. key_of x < key_of later) (λ t. flow_between h.seated.party t.party)
    (filter (is_heard h) (seats_of hs)) (λ x y less. omega arith)
    (pairs_filter Less (is_heard h) (seats_of hs) (pairs_map (λ h later. number_of h < number_of later) Less
    (λ h. h.seated) hs (λ x y less. less) (pairs_from_all (λ h later. number_of h < number_of later) hs up)))

-- If a row has the flows to a listener, its intervals are in order.
pub row_rising : (hs : List Hearer) (h : Hearer) (xs : List OpenInterval) → AreRising hs →
    flows_of xs ≡ flows_heard (seats_of hs) h → IsRising xs
row_rising hs h xs up is = all_from_pairs (λ x later. key_of x.flow < key_of later.flow) xs
    (unmapped (λ x later. key_of x < key_of later) (λ x. x.flow) xs
    (subst (Pairs (λ x later. key_of x < key_of later)) (sym is) (heard_rising hs h up)))

begin_flows : (now : Moment) (fs : List OpenFlow) → flows_of (map (beginning_at now) fs) ≡ fs
begin_flows now [] = refl
begin_flows now (f ∷ fs) = λ i. f ∷ begin_flows now fs i

pub start_rising : (hs : List Hearer) (h : Hearer) (now : Moment) → AreRising hs →
    IsRising (map (beginning_at now) (flows_heard (seats_of hs) h))
start_rising hs h now up = row_rising hs h (map (beginning_at now) (flows_heard (seats_of hs) h)) up
    (begin_flows now (flows_heard (seats_of hs) h))

found_behind : (x y : OpenInterval) (xs : List OpenInterval) (b : Bool) → is_same x.flow y.flow ≡ b →
    key_of y.flow < key_of x.flow → find (λ y. is_same x.flow y.flow) xs ≡ Some x →
    cond b (Some y) (find (λ y. is_same x.flow y.flow) xs) ≡ Some x
found_behind x y xs true e less h = let k = ap key_of ((same x.flow y.flow).0 e) in absurd (omega arith)
found_behind x y xs false e less h = h

-- If intervals are in order, a search for the flow of one of them finds that interval.
finds_itself : (x : OpenInterval) (xs : List OpenInterval) → Pairs (λ x later. key_of x.flow < key_of later.flow) xs →
    In x xs → find (λ y. is_same x.flow y.flow) xs ≡ Some x
finds_itself x [] up i = absurd i
finds_itself x (y ∷ xs) up (inl e) =
    rw ((same x.flow y.flow).1 (ap (λ (z : OpenInterval). z.flow) e)) (ap Some (sym e))
finds_itself x (y ∷ xs) up (inr i) = found_behind x y xs (is_same x.flow y.flow) refl (up.0 x i) (finds_itself x xs up.1 i)

continues_itself : (now : Moment) (all xs : List OpenInterval) →
    ((x : OpenInterval) → In x xs → find (λ y. is_same x.flow y.flow) all ≡ Some x) →
    map (continued all) (map (beginning_at now) (flows_of xs)) ≡ xs
continues_itself now all [] h = refl
continues_itself now all (x ∷ xs) h =
    let first : continued all (beginning_at now x.flow) ≡ x =
    ap (λ (o : Option OpenInterval). option_map_or (λ first. let y : OpenInterval = record { flow = x.flow; first = first } in y)
    (option_map (λ z. z.first) o) (beginning_at now x.flow)) (h x (inl refl)) in
    λ i. first i ∷ continues_itself now all xs (λ y j. h y (inr j)) i

-- If the flows of a row stay the same, the row is unchanged.
pub row_stays : (now : Moment) (xs : List OpenInterval) (fs : List OpenFlow) → IsRising xs → flows_of xs ≡ fs →
    map (continued xs) (map (beginning_at now) fs) ≡ xs
row_stays now xs fs up is =
    ap (λ (l : List OpenFlow). map (continued xs) (map (beginning_at now) l)) (sym is)
    ∙ continues_itself now xs xs
    (λ x i. finds_itself x xs (pairs_from_all (λ x later. key_of x.flow < key_of later.flow) xs up) i)

none_left : (fs : List OpenFlow) (xs : List OpenInterval) → ((x : OpenInterval) → In x xs → has fs x.flow ≡ true) →
    without_flows fs xs ≡ []
none_left fs [] h = refl
none_left fs (x ∷ xs) h = rw (h x (inl refl)) (none_left fs xs (λ y i. h y (inr i)))

pub none_ended : (xs : List OpenInterval) (fs : List OpenFlow) → flows_of xs ≡ fs → [] ≡ without_flows fs xs
none_ended xs fs is = sym (none_left fs xs (λ x i. has_from_in fs x.flow
    (subst (λ (l : List OpenFlow). In x.flow l) is (in_map (λ x. x.flow) x xs i))))

-- ## All rows

same_number : {X : Type 0} (f : X → ℕ) (xs : List X) (x y : X) → Pairs (λ a b. f a < f b) xs → In x xs → In y xs →
    f x ≡ f y → x ≡ y
same_number f [] x y up i j e = absurd i
same_number f (z ∷ xs) x y up (inl p) (inl q) e = p ∙ sym q
same_number f (z ∷ xs) x y up (inl p) (inr j) e =
    let less = up.0 y j in let k = ap f p in absurd (omega arith)
same_number f (z ∷ xs) x y up (inr i) (inl q) e =
    let less = up.0 x i in let k = ap f q in absurd (omega arith)
same_number f (z ∷ xs) x y up (inr i) (inr j) e = same_number f xs x y up.1 i j e

pub heard_listener : (ts : List Seated) (h : Hearer) (y : OpenFlow) → In y (flows_heard ts h) → y.listener ≡ number_of h
heard_listener ts h y i =
    let (t, j, e) = from_map (λ t. flow_between h.seated.party t.party) y (filter (is_heard h) ts) i in
    ap (λ (z : OpenFlow). z.listener) e

others_differ : (x y : OpenFlow) → (x.listener ≡ y.listener → ⊥) → is_same x y ≡ false
others_differ x y apart = elim (cases_Bool (is_same x y)) [
  | inl e ↦ absurd (apart (ap (λ (z : OpenFlow). z.listener) ((same x y).0 e)))
  | inr e ↦ e
]

pub rows_pairs : (rows : List ListenerRow) → AreRows rows →
    Pairs (λ a b. number_of a.listener < number_of b.listener) rows
rows_pairs rows h = unmapped (λ a b. number_of a < number_of b) (λ r. r.listener) rows
    (pairs_from_all (λ h later. number_of h < number_of later) (listeners_of rows) h.rising)

pub in_all : {X : Type 0} (P : X → Type 0) (xs : List X) (x : X) → All P xs → In x xs → P x
in_all P xs x h i = let (k, within, is) = at_from_in x xs i in subst P is (h k x within)

-- The row of another listener has no interval of this flow.
not_in_row : (rows : List ListenerRow) (r : ListenerRow) (x : OpenFlow) → AreRows rows → In r rows →
    (number_of r.listener ≡ x.listener → ⊥) → find (λ y. is_same x y.flow) r.row ≡ None
not_in_row rows r x h i apart = found_nowhere (λ y. is_same x y.flow) r.row (λ y j. others_differ x y.flow
    (λ e. apart (sym (e ∙ heard_listener (seats_of (listeners_of rows)) r.listener y.flow
    (subst (λ (l : List OpenFlow). In y.flow l)
    (in_all (λ r. flows_of r.row ≡ flows_heard (seats_of (listeners_of rows)) r.listener) rows r h.flows i)
    (in_map (λ y. y.flow) y r.row j))))))

pub by_number : (m n : ℕ) (P : Type 0) → (m ≡ n → P) → ((m ≡ n → ⊥) → P) → P
by_number m n P one other = at (eqb m n) refl
  where
    at : (b : Bool) → eqb m n ≡ b → P
    at true e = one (eqb-true m n e)
    at false e = other (λ k. true≢false (sym (eq-eqb m n k) ∙ e))

-- When a flow began depends only on the row of the flow's listener.
pub began_in_row : (rows : List ListenerRow) (r : ListenerRow) (x : OpenFlow) → AreRows rows → In r rows →
    number_of r.listener ≡ x.listener → beginning_among (intervals_of rows) x ≡ beginning_among r.row x
began_in_row rows r x h i e = ap (option_map (λ y. y.first))
    (found_in_one (λ y. is_same x y.flow) (λ r. r.row) r rows i (λ s j.
    by_number (number_of s.listener) (number_of r.listener) ((s ≡ r) ⊎ (find (λ y. is_same x y.flow) s.row ≡ None))
    (λ k. inl (same_number (λ r. number_of r.listener) rows s r (rows_pairs rows h) j i k))
    (λ apart. inr (not_in_row rows s x h j (λ k. apart (k ∙ sym e))))))

pub began_in_none : (rows : List ListenerRow) (x : OpenFlow) → AreRows rows →
    ((r : ListenerRow) → In r rows → number_of r.listener ≡ x.listener → ⊥) →
    beginning_among (intervals_of rows) x ≡ None
began_in_none rows x h apart = ap (option_map (λ y. y.first))
    (found_in_none (λ y. is_same x y.flow) (λ r. r.row) rows (λ r i. not_in_row rows r x h i (apart r i)))

not_heard : (ts : List Seated) (h : Hearer) (x : OpenFlow) → (number_of h ≡ x.listener → ⊥) →
    find (is_same x) (flows_heard ts h) ≡ None
not_heard ts h x apart = found_nowhere (is_same x) (flows_heard ts h)
    (λ y j. others_differ x y (λ e. apart (sym (e ∙ heard_listener ts h y j))))

-- Whether a flow is open depends only on the flows to its listener.
pub open_to : (hs : List Hearer) (h : Hearer) (x : OpenFlow) → AreRising hs → In h hs → number_of h ≡ x.listener →
    has (flows_among hs) x ≡ has (flows_heard (seats_of hs) h) x
open_to hs h x up i e = any_found (is_same x) (flows_among hs)
    ∙ ap is_some (found_in_one (is_same x) (flows_heard (seats_of hs)) h hs i (λ s j.
    by_number (number_of s) (number_of h) ((s ≡ h) ⊎ (find (is_same x) (flows_heard (seats_of hs) s) ≡ None))
    (λ k. inl (same_number number_of hs s h (pairs_from_all (λ h later. number_of h < number_of later) hs up) j i k))
    (λ apart. inr (not_heard (seats_of hs) s x (λ k. apart (k ∙ sym e))))))
    ∙ sym (any_found (is_same x) (flows_heard (seats_of hs) h))

pub open_to_none : (hs : List Hearer) (x : OpenFlow) → ((h : Hearer) → In h hs → number_of h ≡ x.listener → ⊥) →
    has (flows_among hs) x ≡ false
open_to_none hs x apart = any_found (is_same x) (flows_among hs)
    ∙ ap is_some (found_in_none (is_same x) (flows_heard (seats_of hs)) hs (λ h i. not_heard (seats_of hs) h x (apart h i)))

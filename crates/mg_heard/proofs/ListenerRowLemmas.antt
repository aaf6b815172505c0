-- Rows of listeners, one after another, and of all listeners.
use Rattle.std.proofs.Common.{◌≡◌, ℕ, ◌+◌, ◌<◌, ◌≤◌, ◌≢◌, ◌==◌, ◌||◌, not, Bool, true, false, cond, List, [], ◌∷◌, ◌++◌, Option, None, All, length, append_assoc, get_or, set, take, drop, map, nat_lt, refl, sym, ap, subst, ◌∙◌, inl, inr, arith}
use Rattle.std.specs.Prelude.{flat_map, is_some}
use Rattle.std.proofs.Math.Bool.{or-false}
use Rattle.std.specs.List.{list_any}
use Rattle.std.specs.Option.{option_map_or}
use Rattle.std.proofs.lemmas.Bool.{cases_Bool, eq-eqb, ltb-false, ltb-true, ne_eqb, true≢false}
use Rattle.std.proofs.lemmas.List.{append-nil, drop_more, ext_get_or, get_or-map, get_or-set_other, get_or-set_same, get_or_default, length-map, length-set, map-append, map_push, take-append-drop, take_all, take_more, take_more_set}
use Rattle.std.proofs.lemmas.List.Concat.{flat_map-append}
use Rattle.std.proofs.lemmas.List.Elements.{All-map, filter-append}
use Rattle.std.proofs.lemmas.List.Folds.{list_any-append}
use Rattle.mg_heard.specs.OpenFlow.{has}
use Rattle.mg_heard.specs.aids.Hearers.{AreRising, flows_among, flows_heard, number_of, seats_of}
use Rattle.mg_heard.specs.aids.Keeping.{entry_until}
use Rattle.mg_heard.specs.declared.entry.Entry.{Entry}
use Rattle.mg_heard.specs.aids.Opening.{IsRising, beginning_among, beginning_at, continued, flows_of, without_flows}
use Rattle.mg_heard.specs.aids.Rows.{AreRows, intervals_of, listeners_of}
use Rattle.mg_heard.specs.declared.hearer.Hearer.{Hearer}
use Rattle.mg_heard.specs.declared.listener_row.ListenerRow.{ListenerRow}
use Rattle.mg_heard.specs.declared.moment.Moment.{Moment}
use Rattle.mg_heard.specs.declared.open_flow.OpenFlow.{OpenFlow}
use Rattle.mg_heard.specs.declared.open_interval.OpenInterval.{OpenInterval}
use Rattle.mg_heard.specs.declared.seated.Seated.{Seated}
use Rattle.mg_heard.proofs.AdvanceLemmas.{new_flows}
use Rattle.mg_heard.proofs.FillLemmas.{nobody, seats_more}
use Rattle.mg_heard.proofs.Members.{In, Pairs, all_from_pairs, at_from_in, in_at, in_map, in_right, pairs_from_all}
use Rattle.mg_heard.proofs.SameLemmas.{same}
use Rattle.mg_heard.proofs.RowLemmas.{any_found, began_in_none, began_in_row, by_number, found_nowhere, heard_listener, in_all, none_ended, open_to, open_to_none, row_rising, row_stays, rows_pairs}

-- ## One listener after another

abbrev among : List Hearer → ℕ → Bool
among hs n = list_any (λ h. number_of h == n) hs

-- The row of a listener after the moment `now`.
abbrev made : List OpenInterval → List Hearer → Moment → Hearer → ListenerRow
made earlier hs now h = record {
  listener = h;
  row = map (continued earlier) (map (beginning_at now) (flows_heard (seats_of hs) h));
}

-- The row with only the intervals that end.
abbrev rest_of : List OpenFlow → ListenerRow → ListenerRow
rest_of flows r = record { listener = r.listener; row = without_flows flows r.row }

-- If `b` is true, the row with only the intervals that end; otherwise, the unchanged row.
abbrev left : List OpenFlow → Bool → ListenerRow → ListenerRow
left flows b r = cond b (rest_of flows r) r

pub record Advances (first old rows : List ListenerRow) (hs : List Hearer) (now : Moment) (j : ℕ) : Type 0 where
  pub within : j ≤ length hs
  pub has_made : take j rows ≡ map (made (intervals_of first) hs now) (take j hs)
  pub long : length old ≡ length first
  pub has_left : (k : ℕ) (d : ListenerRow) → k < length first → get_or old k d ≡
      left (flows_among hs) (among (take j hs) (number_of (get_or first k d).listener)) (get_or first k d)

pub advances_start : (first rows : List ListenerRow) (hs : List Hearer) (now : Moment) → Advances first first rows hs now 0
advances_start first rows hs now = record { within = omega arith; has_made = refl; long = refl; has_left = λ k d below. refl }

left_listener : (flows : List OpenFlow) (b : Bool) (r : ListenerRow) → (left flows b r).listener ≡ r.listener
left_listener flows true r = refl
left_listener flows false r = refl

same_listener : (first old rows : List ListenerRow) (hs : List Hearer) (now : Moment) (j k : ℕ) (d : ListenerRow) →
    Advances first old rows hs now j → k < length first → (get_or old k d).listener ≡ (get_or first k d).listener
same_listener first old rows hs now j k d h below = ap (λ (r : ListenerRow). r.listener) (h.has_left k d below)
    ∙ left_listener (flows_among hs) (among (take j hs) (number_of (get_or first k d).listener)) (get_or first k d)

any_nowhere : {X : Type 0} (p : X → Bool) (xs : List X) → ((x : X) → In x xs → p x ≡ false) → list_any p xs ≡ false
any_nowhere p xs h = any_found p xs ∙ ap is_some (found_nowhere p xs h)

pairs_across : {X : Type 0} (R : X → X → Type 0) (x y : X) (xs ys : List X) → Pairs R (xs ++ y ∷ ys) → In x xs → R x y
pairs_across R x y [] ys h i = absurd i
pairs_across R x y (z ∷ xs) ys h (inl e) = subst (λ w. R w y) (sym e) (h.0 y (in_right y xs (y ∷ ys) (inl refl)))
pairs_across R x y (z ∷ xs) ys h (inr i) = pairs_across R x y xs ys h.1 i

-- A listener is not among those before it in the list.
not_among : (hs : List Hearer) (j : ℕ) (h : Hearer) → AreRising hs → j < length hs → get_or hs j h ≡ h →
    among (take j hs) (number_of h) ≡ false
not_among hs j h up there is = any_nowhere (λ x. number_of x == number_of h) (take j hs) (λ x i.
    let whole = sym (take-append-drop j hs)
    ∙ ap (λ (l : List Hearer). take j hs ++ l) (drop_more hs j h there ∙ ap (λ (y : Hearer). y ∷ drop (j + 1) hs) is) in
    let less = pairs_across (λ h later. number_of h < number_of later) x h (take j hs) (drop (j + 1) hs)
    (subst (Pairs (λ h later. number_of h < number_of later)) whole
    (pairs_from_all (λ h later. number_of h < number_of later) hs up)) i in
    ne_eqb (number_of x) (number_of h) (λ e. absurd (omega arith)))

among_more : (hs : List Hearer) (j n : ℕ) (h : Hearer) → j < length hs → get_or hs j h ≡ h →
    among (take (j + 1) hs) n ≡ among (take j hs) n || ((number_of h == n) || false)
among_more hs j n h there is =
    ap (λ (l : List Hearer). among l n) (take_more hs j h there ∙ ap (λ (x : Hearer). take j hs ++ x ∷ []) is)
    ∙ list_any-append (λ x. number_of x == n) (take j hs) (h ∷ [])

among_other : (hs : List Hearer) (j n : ℕ) (h : Hearer) → j < length hs → get_or hs j h ≡ h → (number_of h ≡ n → ⊥) →
    among (take (j + 1) hs) n ≡ among (take j hs) n
among_other hs j n h there is apart = among_more hs j n h there is
    ∙ ap (λ (b : Bool). among (take j hs) n || (b || false)) (ne_eqb (number_of h) n apart)
    ∙ or-false (among (take j hs) n)

among_this : (hs : List Hearer) (j n : ℕ) (h : Hearer) → j < length hs → get_or hs j h ≡ h → number_of h ≡ n →
    among (take (j + 1) hs) n ≡ true
among_this hs j n h there is e = among_more hs j n h there is
    ∙ ap (λ (b : Bool). among (take j hs) n || (b || false)) (eq-eqb (number_of h) n e)
    ∙ or-true (among (take j hs) n)
  where
    or-true : (b : Bool) → b || true ≡ true
    or-true true = refl
    or-true false = refl

-- The earlier row of the next listener has not been changed yet.
pub at_first : (first old rows : List ListenerRow) (hs : List Hearer) (now : Moment) (j k : ℕ) (h : Hearer)
    (d : ListenerRow) → AreRising hs → j < length hs → get_or hs j h ≡ h → Advances first old rows hs now j →
    k < length first → number_of (get_or old k d).listener ≡ number_of h → get_or old k d ≡ get_or first k d
at_first first old rows hs now j k h d up there is a below e =
    let r = get_or first k d in
    let number = sym (ap number_of (same_listener first old rows hs now j k d a below)) ∙ e in
    a.has_left k d below ∙ ap (λ (b : Bool). left (flows_among hs) b r)
    (ap (among (take j hs)) number ∙ not_among hs j h up there is)

continued_alike : (a b : List OpenInterval) (now : Moment) (fs : List OpenFlow) →
    ((x : OpenFlow) → In x fs → beginning_among a x ≡ beginning_among b x) →
    map (continued a) (map (beginning_at now) fs) ≡ map (continued b) (map (beginning_at now) fs)
continued_alike a b now [] h = refl
continued_alike a b now (f ∷ fs) h =
    let first : continued a (beginning_at now f) ≡ continued b (beginning_at now f) =
    ap (λ (o : Option Moment). option_map_or (λ first. let y : OpenInterval = record { flow = f; first = first } in y)
    o (beginning_at now f)) (h f (inl refl)) in
    λ i. first i ∷ continued_alike a b now fs (λ x j. h x (inr j)) i

started : (a : List OpenInterval) (now : Moment) (fs : List OpenFlow) →
    ((x : OpenFlow) → In x fs → beginning_among a x ≡ None) →
    map (beginning_at now) fs ≡ map (continued a) (map (beginning_at now) fs)
started a now [] h = refl
started a now (f ∷ fs) h =
    let first : beginning_at now f ≡ continued a (beginning_at now f) =
    sym (ap (λ (o : Option Moment). option_map_or (λ first. let y : OpenInterval = record { flow = f; first = first } in y)
    o (beginning_at now f)) (h f (inl refl))) in
    λ i. first i ∷ started a now fs (λ x j. h x (inr j)) i

left_alike : (fs gs : List OpenFlow) (xs : List OpenInterval) →
    ((x : OpenInterval) → In x xs → has fs x.flow ≡ has gs x.flow) → without_flows fs xs ≡ without_flows gs xs
left_alike fs gs [] h = refl
left_alike fs gs (x ∷ xs) h =
    let rest = left_alike fs gs xs (λ y j. h y (inr j)) in
    λ i. cond (not (h x (inl refl) i)) (x ∷ rest i) (rest i)

row_listener : (rows : List ListenerRow) (r : ListenerRow) (x : OpenInterval) → AreRows rows → In r rows → In x r.row →
    x.flow.listener ≡ number_of r.listener
row_listener rows r x h i j = heard_listener (seats_of (listeners_of rows)) r.listener x.flow
    (subst (λ (l : List OpenFlow). In x.flow l)
    (in_all (λ r. flows_of r.row ≡ flows_heard (seats_of (listeners_of rows)) r.listener) rows r h.flows i)
    (in_map (λ y. y.flow) x r.row j))

apart_at : (rows : List ListenerRow) (k m : ℕ) (d : ListenerRow) → AreRows rows → k < length rows → m < length rows →
    k ≢ m → number_of (get_or rows k d).listener ≡ number_of (get_or rows m d).listener → ⊥
apart_at rows k m d h below within apart e =
    let all = all_from_pairs (λ a b. number_of a.listener < number_of b.listener) rows (rows_pairs rows h) in
    elim (cases_Bool (nat_lt k m)) [
      | inl t ↦
          let less : k < m = ltb-true k m t in
          let step = all k m d less within in
          absurd (omega (arith, step, e))
      | inr t ↦
          let most : m ≤ k = ltb-false k m t in
          let less : m < k = omega (arith, most, apart) in
          let step = all m k d less below in
          absurd (omega (arith, step, e))
    ]

made_more : (first rows new : List ListenerRow) (hs : List Hearer) (now : Moment) (j : ℕ) (h : Hearer)
    (y : ListenerRow) → j < length hs → take (j + 1) new ≡ take j rows ++ y ∷ [] → get_or hs j h ≡ h →
    y ≡ made (intervals_of first) hs now h → take j rows ≡ map (made (intervals_of first) hs now) (take j hs) →
    take (j + 1) new ≡ map (made (intervals_of first) hs now) (take (j + 1) hs)
made_more first rows new hs now j h y there put is e so_far =
    let f = made (intervals_of first) hs now in
    put
    ∙ ap (λ (l : List ListenerRow). l ++ y ∷ []) so_far
    ∙ ap (λ (r : ListenerRow). map f (take j hs) ++ r ∷ []) e
    ∙ sym (map_push f (take j hs) h)
    ∙ ap (λ (x : Hearer). map f (take j hs ++ x ∷ [])) (sym is)
    ∙ ap (map f) (sym (take_more hs j h there))

is_made : (earlier : List OpenInterval) (hs : List Hearer) (now : Moment) (h : Hearer) (y : ListenerRow) →
    y.listener ≡ h → y.row ≡ map (continued earlier) (map (beginning_at now) (flows_heard (seats_of hs) h)) →
    y ≡ made earlier hs now h
is_made earlier hs now h y listens row = λ i. record { listener = listens i; row = row i }

is_rest : (flows : List OpenFlow) (r z : ListenerRow) → z.listener ≡ r.listener → z.row ≡ without_flows flows r.row →
    z ≡ rest_of flows r
is_rest flows r z listens row = λ i. record { listener = listens i; row = row i }

-- A dummy row for a place that doesn't exist.
abbrev pub no_row : ListenerRow
no_row = record { listener = nobody; row = [] }

-- The intervals to a listener can only continue intervals of the listener's earlier row.
row_alike : (first : List ListenerRow) (r : ListenerRow) (hs : List Hearer) (h : Hearer) (now : Moment) → AreRows first →
    In r first → number_of r.listener ≡ number_of h →
    map (continued r.row) (map (beginning_at now) (flows_heard (seats_of hs) h)) ≡
    map (continued (intervals_of first)) (map (beginning_at now) (flows_heard (seats_of hs) h))
row_alike first r hs h now own i named = continued_alike r.row (intervals_of first) now (flows_heard (seats_of hs) h)
    (λ x j. sym (began_in_row first r x own i (named ∙ sym (heard_listener (seats_of hs) h x j))))

-- Of the intervals of an earlier row, those end whose flows are not among the flows to its listener.
ends_alike : (first : List ListenerRow) (r : ListenerRow) (hs : List Hearer) (h : Hearer) → AreRows first →
    AreRising hs → In r first → In h hs → number_of r.listener ≡ number_of h →
    without_flows (flows_heard (seats_of hs) h) r.row ≡ without_flows (flows_among hs) r.row
ends_alike first r hs h own up i there named = left_alike (flows_heard (seats_of hs) h) (flows_among hs) r.row
    (λ x j. sym (open_to hs h x.flow up there (sym named ∙ sym (row_listener first r x own i j))))

-- If the next listener has an earlier row, its new row continues that one.
pub advances_found : (first old rows : List ListenerRow) (hs : List Hearer) (now : Moment) (j k : ℕ) (h : Hearer)
    (d y z : ListenerRow) → AreRows first → AreRising hs → j < length hs → j < length rows → get_or hs j h ≡ h →
    Advances first old rows hs now j → k < length first → number_of (get_or old k d).listener ≡ number_of h →
    y.listener ≡ h → y.row ≡ map (continued (get_or old k d).row) (map (beginning_at now) (flows_heard (seats_of hs) h)) →
    z.listener ≡ (get_or old k d).listener →
    z.row ≡ without_flows (flows_heard (seats_of hs) h) (get_or old k d).row →
    Advances first (set old k z) (set rows j y) hs now (j + 1)
advances_found first old rows hs now j k h d y z own up there within is a below number listens row keeps ended =
    let r = get_or first k d in
    let fs = flows_heard (seats_of hs) h in
    let same = at_first first old rows hs now j k h d up there is a below number in
    let named : number_of r.listener ≡ number_of h = sym (ap (λ (r : ListenerRow). number_of r.listener) same) ∙ number in
    let whole = row ∙ ap (λ (r : ListenerRow). map (continued r.row) (map (beginning_at now) fs)) same
    ∙ row_alike first r hs h now own (in_at first k d below) named in
    let keeps_it = keeps ∙ ap (λ (r : ListenerRow). r.listener) same in
    let in_hs : In h hs = subst (λ (x : Hearer). In x hs) is (in_at hs j h there) in
    let ends = ended ∙ ap (λ (r : ListenerRow). without_flows fs r.row) same
    ∙ ends_alike first r hs h own up (in_at first k d below) in_hs named in
    let F = flows_among hs in
    let now_at = λ (m : ℕ) (e x : ListenerRow). get_or (set old k z) m e ≡
    left F (among (take (j + 1) hs) (number_of x.listener)) x in
    let there_now = λ (e : ListenerRow). subst (now_at k e) (get_or_default first k d e below)
    (get_or-set_same old k z e (omega (arith, a.long)) ∙ is_rest F r z keeps_it ends
    ∙ ap (λ (b : Bool). left F b r) (sym (among_this hs j (number_of r.listener) h there is (sym named)))) in
    record {
      within = omega arith;
      has_made = made_more first rows (set rows j y) hs now j h y there (take_more_set rows j y within) is
          (is_made (intervals_of first) hs now h y listens whole) a.has_made;
      long = length-set old k z ∙ a.long;
      has_left = λ m e inside. by_number m k (now_at m e (get_or first m e))
          (λ here. subst (λ (n : ℕ). now_at n e (get_or first n e)) (sym here) (there_now e))
          (λ apart. get_or-set_other old k m z e apart ∙ a.has_left m e inside
          ∙ ap (λ (b : Bool). left F b (get_or first m e))
          (sym (among_other hs j (number_of (get_or first m e).listener) h there is
          (λ q. apart_at first m k e own inside below apart (sym q ∙ sym named
          ∙ ap (λ (r : ListenerRow). number_of r.listener) (get_or_default first k d e below))))));
    }

-- If the next listener has no earlier row, all intervals of its new row begin at this moment.
pub advances_new : (first old rows : List ListenerRow) (hs : List Hearer) (now : Moment) (j : ℕ) (h : Hearer)
    (y : ListenerRow) → AreRows first → j < length hs → j < length rows → get_or hs j h ≡ h →
    Advances first old rows hs now j → ((k : ℕ) (d : ListenerRow) → k < length old →
    number_of (get_or old k d).listener ≡ number_of h → ⊥) → y.listener ≡ h →
    y.row ≡ map (beginning_at now) (flows_heard (seats_of hs) h) → Advances first old (set rows j y) hs now (j + 1)
advances_new first old rows hs now j h y own there within is a none listens row =
    let fs = flows_heard (seats_of hs) h in
    let F = flows_among hs in
    let apart = λ (k : ℕ) (d : ListenerRow) (below : k < length first)
    (e : number_of (get_or first k d).listener ≡ number_of h).
    none k d (omega (arith, below, a.long)) (ap number_of (same_listener first old rows hs now j k d a below) ∙ e) in
    let whole = row ∙ started (intervals_of first) now fs (λ x i. began_in_none first x own (λ r q e.
    let (k, below, at) = at_from_in r first q in
    apart k r below (ap (λ (r : ListenerRow). number_of r.listener) at ∙ e ∙ heard_listener (seats_of hs) h x i))) in
    record {
      within = omega arith;
      has_made = made_more first rows (set rows j y) hs now j h y there (take_more_set rows j y within) is
          (is_made (intervals_of first) hs now h y listens whole) a.has_made;
      long = a.long;
      has_left = λ m e inside. a.has_left m e inside ∙ ap (λ (b : Bool). left F b (get_or first m e))
          (sym (among_other hs j (number_of (get_or first m e).listener) h there is (λ q. apart m e inside (sym q))));
    }

-- ## All listeners

all_made : (earlier : List OpenInterval) (hs : List Hearer) (now : Moment) (ks : List Hearer) →
    intervals_of (map (made earlier hs now) ks) ≡
    map (continued earlier) (map (beginning_at now) (flat_map (flows_heard (seats_of hs)) ks))
all_made earlier hs now [] = refl
all_made earlier hs now (h ∷ ks) =
    let fs = flows_heard (seats_of hs) h in
    let rest = flat_map (flows_heard (seats_of hs)) ks in
    ap (λ (l : List OpenInterval). map (continued earlier) (map (beginning_at now) fs) ++ l) (all_made earlier hs now ks)
    ∙ sym (ap (map (continued earlier)) (map-append (beginning_at now) fs rest)
    ∙ map-append (continued earlier) (map (beginning_at now) fs) (map (beginning_at now) rest))

made_listeners : (earlier : List OpenInterval) (hs : List Hearer) (now : Moment) (ks : List Hearer) →
    listeners_of (map (made earlier hs now) ks) ≡ ks
made_listeners earlier hs now [] = refl
made_listeners earlier hs now (h ∷ ks) = λ i. h ∷ made_listeners earlier hs now ks i

pub all_rows : (first old rows : List ListenerRow) (hs : List Hearer) (now : Moment) (j : ℕ) → AreRising hs →
    length hs ≤ j → Advances first old rows hs now j →
    take (length hs) rows ≡ map (made (intervals_of first) hs now) hs
all_rows first old rows hs now j up past a =
    let end : j ≡ length hs = omega (arith, past, a.within) in
    ap (λ (n : ℕ). take n rows) (sym end) ∙ a.has_made
    ∙ ap (map (made (intervals_of first) hs now)) (take_all j hs past)

pub are_rows : (earlier : List OpenInterval) (rows : List ListenerRow) (hs : List Hearer) (now : Moment) → AreRising hs →
    rows ≡ map (made earlier hs now) hs → AreRows rows
are_rows earlier rows hs now up is =
    let listeners = made_listeners earlier hs now hs in
    subst AreRows (sym is) (record {
      rising = subst AreRising (sym listeners) up;
      flows = subst (λ (l : List Hearer). All (λ r. flows_of r.row ≡ flows_heard (seats_of l) r.listener)
          (map (made earlier hs now) hs)) (sym listeners)
          (All-map (λ r. flows_of r.row ≡ flows_heard (seats_of hs) r.listener) (made earlier hs now) hs
          (λ k d below. new_flows earlier now (flows_heard (seats_of hs) (get_or hs k d))));
    })

pub rows_value : (earlier : List OpenInterval) (rows : List ListenerRow) (hs : List Hearer) (now : Moment) →
    rows ≡ map (made earlier hs now) hs →
    intervals_of rows ≡ map (continued earlier) (map (beginning_at now) (flows_among hs))
rows_value earlier rows hs now is = ap intervals_of is ∙ all_made earlier hs now hs

absent : {X : Type 0} (p : X → Bool) (x : X) (xs : List X) → list_any p xs ≡ false → In x xs → p x ≡ false
absent p x [] h i = absurd i
absent p x (y ∷ xs) h (inl e) = ap p e ∙ first (p y) (list_any p xs) h
  where
    first : (a b : Bool) → a || b ≡ false → a ≡ false
    first true b h = h
    first false b h = refl
absent p x (y ∷ xs) h (inr i) = absent p x xs (second (p y) (list_any p xs) h) i
  where
    second : (a b : Bool) → a || b ≡ false → b ≡ false
    second true b h = absurd (true≢false h)
    second false b h = h

all_left : (fs : List OpenFlow) (xs : List OpenInterval) → ((x : OpenInterval) → In x xs → has fs x.flow ≡ false) →
    xs ≡ without_flows fs xs
all_left fs [] h = refl
all_left fs (x ∷ xs) h = rw (h x (inl refl)) (ap (λ (l : List OpenInterval). x ∷ l) (all_left fs xs (λ y i. h y (inr i))))

-- If a row's listener no longer exists, all intervals of the row end.
rest_at : (first : List ListenerRow) (hs : List Hearer) (k : ℕ) (d : ListenerRow) (b : Bool) → AreRows first →
    k < length first → among hs (number_of (get_or first k d).listener) ≡ b →
    left (flows_among hs) b (get_or first k d) ≡ rest_of (flows_among hs) (get_or first k d)
rest_at first hs k d true own below e = refl
rest_at first hs k d false own below e =
    let r = get_or first k d in
    let whole = all_left (flows_among hs) r.row (λ x i. open_to_none hs x.flow (λ h j q.
    true≢false (sym (eq-eqb (number_of h) (number_of r.listener) (q ∙ row_listener first r x own (in_at first k d below) i))
    ∙ absent (λ h. number_of h == number_of r.listener) h hs e j))) in
    λ i. record { listener = r.listener; row = whole i }

rest_flat : (fs : List OpenFlow) (rows : List ListenerRow) →
    intervals_of (map (rest_of fs) rows) ≡ without_flows fs (intervals_of rows)
rest_flat fs [] = refl
rest_flat fs (r ∷ rows) =
    ap (λ (l : List OpenInterval). without_flows fs r.row ++ l) (rest_flat fs rows)
    ∙ sym (filter-append (λ x. not (has fs x.flow)) r.row (intervals_of rows))

pub all_ended : (first old rows : List ListenerRow) (hs : List Hearer) (now : Moment) (j : ℕ) → AreRows first →
    length hs ≤ j → Advances first old rows hs now j →
    intervals_of old ≡ without_flows (flows_among hs) (intervals_of first)
all_ended first old rows hs now j own past a =
    let F = flows_among hs in
    let all : old ≡ map (rest_of F) first = ext_get_or no_row old (map (rest_of F) first)
    (a.long ∙ sym (length-map first (rest_of F))) (λ k below.
    let there : k < length first = omega (arith, below, a.long) in
    a.has_left k no_row there
    ∙ ap (λ (l : List Hearer). left F (among l (number_of (get_or first k no_row).listener)) (get_or first k no_row))
    (take_all j hs past)
    ∙ rest_at first hs k no_row (among hs (number_of (get_or first k no_row).listener)) own there refl
    ∙ sym (get_or-map (rest_of F) first k no_row no_row there)) in
    ap intervals_of all ∙ rest_flat F first

-- ## Preconditions of the steps

-- The intervals of an earlier row are in order.
pub earlier_rising : (first : List ListenerRow) (r : ListenerRow) (k : ℕ) (d : ListenerRow) → AreRows first →
    k < length first → r ≡ get_or first k d → IsRising r.row
earlier_rising first r k d own below at = subst (λ (r : ListenerRow). IsRising r.row) (sym at)
    (row_rising (listeners_of first) (get_or first k d).listener (get_or first k d).row own.rising (own.flows k d below))

pub earlier_flows : (first : List ListenerRow) (r : ListenerRow) (k : ℕ) (d : ListenerRow) (ts : List Seated)
    (h : Hearer) → AreRows first → k < length first → r ≡ get_or first k d → seats_of (listeners_of first) ≡ ts →
    r.listener ≡ h → flows_of r.row ≡ flows_heard ts h
earlier_flows first r k d ts h own below at same listens =
    ap (λ (r : ListenerRow). flows_of r.row) at ∙ own.flows k d below
    ∙ ap (λ (ts : List Seated). flows_heard ts (get_or first k d).listener) same
    ∙ ap (flows_heard ts) (ap (λ (r : ListenerRow). r.listener) (sym at) ∙ listens)

-- ## Rows of the same terminations

pub same_more : (rows : List ListenerRow) (hs : List Hearer) (i : ℕ) (r : ListenerRow) (h : Hearer) → i < length rows →
    i < length hs → get_or rows i r ≡ r → get_or hs i h ≡ h → r.listener.seated ≡ h.seated →
    seats_of (listeners_of (take i rows)) ≡ seats_of (take i hs) →
    seats_of (listeners_of (take (i + 1) rows)) ≡ seats_of (take (i + 1) hs)
same_more rows hs i r h below within at is same so_far =
    ap (λ (l : List ListenerRow). seats_of (listeners_of l))
    (take_more rows i r below ∙ ap (λ (x : ListenerRow). take i rows ++ x ∷ []) at)
    ∙ ap seats_of (map_push (λ r. r.listener) (take i rows) r)
    ∙ map_push (λ h. h.seated) (listeners_of (take i rows)) r.listener
    ∙ ap (λ (l : List Seated). l ++ r.listener.seated ∷ []) so_far
    ∙ ap (λ (t : Seated). seats_of (take i hs) ++ t ∷ []) same
    ∙ sym (seats_more hs i h within is)

pub same_length : (rows : List ListenerRow) (hs : List Hearer) → seats_of (listeners_of rows) ≡ seats_of hs →
    length rows ≡ length hs
same_length rows hs same = sym (length-map rows (λ r. r.listener)) ∙ sym (length-map (listeners_of rows) (λ h. h.seated))
    ∙ ap length same ∙ length-map hs (λ h. h.seated)

same_seat : (rows : List ListenerRow) (hs : List Hearer) (j : ℕ) (h : Hearer) (d : ListenerRow) →
    seats_of (listeners_of rows) ≡ seats_of hs → j < length hs → get_or hs j h ≡ h →
    (get_or rows j d).listener.seated ≡ h.seated
same_seat rows hs j h d same there is =
    let below : j < length rows = omega (arith, there, same_length rows hs same) in
    let within : j < length (listeners_of rows) = omega (arith, below, length-map rows (λ r. r.listener)) in
    ap (λ (x : Hearer). x.seated) (sym (get_or-map (λ r. r.listener) rows j d d.listener below))
    ∙ sym (get_or-map (λ h. h.seated) (listeners_of rows) j d.listener h.seated within)
    ∙ ap (λ (l : List Seated). get_or l j h.seated) same
    ∙ get_or-map (λ h. h.seated) hs j h h.seated there ∙ ap (λ (x : Hearer). x.seated) is

intervals_push : (rows : List ListenerRow) (r : ListenerRow) → intervals_of (rows ++ r ∷ []) ≡ intervals_of rows ++ r.row
intervals_push rows r = flat_map-append (λ r. r.row) rows (r ∷ [])
    ∙ ap (λ (l : List OpenInterval). intervals_of rows ++ l) (append-nil r.row)

-- Of the rows `first`, those of the first `j` listeners were renewed. The first `n` rows of `ended` have the intervals
-- that ended.
pub record Renews (first rows ended : List ListenerRow) (hs : List Hearer) (now : Moment) (j n : ℕ) : Type 0 where
  pub within : j ≤ length hs
  pub few : n ≤ j
  pub has_made : take j rows ≡ map (made (intervals_of first) hs now) (take j hs)
  pub has_kept : (k : ℕ) (d : ListenerRow) → j ≤ k → get_or rows k d ≡ get_or first k d
  pub has_ended : intervals_of (take n ended) ≡ without_flows (flows_among hs) (intervals_of (take j first))

pub renews_start : (first ended : List ListenerRow) (hs : List Hearer) (now : Moment) → Renews first first ended hs now 0 0
renews_start first ended hs now =
    record { within = omega arith; few = omega arith; has_made = refl; has_kept = λ k d past. refl; has_ended = refl }

ended_more : (F : List OpenFlow) (first : List ListenerRow) (j : ℕ) (d : ListenerRow) → j < length first →
    without_flows F (intervals_of (take (j + 1) first)) ≡
    without_flows F (intervals_of (take j first)) ++ without_flows F (get_or first j d).row
ended_more F first j d below = ap (λ (l : List ListenerRow). without_flows F (intervals_of l)) (take_more first j d below)
    ∙ ap (without_flows F) (intervals_push (take j first) (get_or first j d))
    ∙ filter-append (λ x. not (has F x.flow)) (intervals_of (take j first)) (get_or first j d).row

pub renews_changed : (first rows ended : List ListenerRow) (hs : List Hearer) (now : Moment) (j n : ℕ) (h : Hearer)
    (d y z : ListenerRow) → AreRows first → AreRising hs → seats_of (listeners_of first) ≡ seats_of hs →
    j < length hs → j < length rows → n < length ended → get_or hs j h ≡ h → Renews first rows ended hs now j n →
    y.listener ≡ h → y.row ≡ map (continued (get_or rows j d).row) (map (beginning_at now) (flows_heard (seats_of hs) h)) →
    z.row ≡ without_flows (flows_heard (seats_of hs) h) (get_or rows j d).row →
    Renews first (set rows j y) (set ended n z) hs now (j + 1) (n + 1)
renews_changed first rows ended hs now j n h d y z own up same there within room is a listens row ends =
    let r = get_or first j d in
    let fs = flows_heard (seats_of hs) h in
    let F = flows_among hs in
    let below : j < length first = omega (arith, there, same_length first hs same) in
    let among = in_at first j d below in
    let kept = a.has_kept j d (omega arith) in
    let named = ap (λ (t : Seated). t.party.number) (same_seat first hs j h d same there is) in
    let whole = row ∙ ap (λ (r : ListenerRow). map (continued r.row) (map (beginning_at now) fs)) kept
    ∙ row_alike first r hs h now own among named in
    let rest = ends ∙ ap (λ (r : ListenerRow). without_flows fs r.row) kept
    ∙ ends_alike first r hs h own up among (subst (λ (x : Hearer). In x hs) is (in_at hs j h there)) named in
    record {
      within = omega arith;
      few = omega (arith, a.few);
      has_made = made_more first rows (set rows j y) hs now j h y there (take_more_set rows j y within) is
          (is_made (intervals_of first) hs now h y listens whole) a.has_made;
      has_kept = λ k e past. get_or-set_other rows j k y e (λ q. absurd (omega (arith, past, q)))
          ∙ a.has_kept k e (omega (arith, past));
      has_ended = ap intervals_of (take_more_set ended n z room) ∙ intervals_push (take n ended) z
          ∙ (λ i. a.has_ended i ++ rest i) ∙ sym (ended_more F first j d below);
    }

pub renews_kept : (first rows ended : List ListenerRow) (hs : List Hearer) (now : Moment) (j n : ℕ) (h : Hearer)
    (d : ListenerRow) → AreRows first → AreRising hs → seats_of (listeners_of first) ≡ seats_of hs → j < length hs →
    j < length rows → get_or hs j h ≡ h → Renews first rows ended hs now j n →
    (get_or rows j d).listener.talkers ≡ h.talkers → Renews first rows ended hs now (j + 1) n
renews_kept first rows ended hs now j n h d own up same there within is a talkers =
    let r = get_or first j d in
    let fs = flows_heard (seats_of hs) h in
    let F = flows_among hs in
    let below : j < length first = omega (arith, there, same_length first hs same) in
    let among = in_at first j d below in
    let kept = a.has_kept j d (omega arith) in
    let seated = same_seat first hs j h d same there is in
    let named = ap (λ (t : Seated). t.party.number) seated in
    let hears = sym (ap (λ (r : ListenerRow). r.listener.talkers) kept) ∙ talkers in
    let listens : r.listener ≡ h = λ i. record { seated = seated i; talkers = hears i } in
    let flows = earlier_flows first r j d (seats_of hs) h own below refl same listens in
    let whole = sym (row_stays now r.row fs (earlier_rising first r j d own below refl) flows)
    ∙ row_alike first r hs h now own among named in
    let rest = none_ended r.row fs flows
    ∙ ends_alike first r hs h own up among (subst (λ (x : Hearer). In x hs) is (in_at hs j h there)) named in
    record {
      within = omega arith;
      few = omega (arith, a.few);
      has_made = made_more first rows rows hs now j h r there
          (take_more rows j d within ∙ ap (λ (x : ListenerRow). take j rows ++ x ∷ []) kept) is
          (is_made (intervals_of first) hs now h r listens whole) a.has_made;
      has_kept = λ k e past. a.has_kept k e (omega (arith, past));
      has_ended = a.has_ended ∙ sym (append-nil (without_flows F (intervals_of (take j first))))
          ∙ ap (λ (l : List OpenInterval). without_flows F (intervals_of (take j first)) ++ l) rest
          ∙ sym (ended_more F first j d below);
    }

pub all_renewed : (first rows ended : List ListenerRow) (hs : List Hearer) (now : Moment) (j n : ℕ) →
    seats_of (listeners_of first) ≡ seats_of hs → length rows ≡ length first → length hs ≤ j →
    Renews first rows ended hs now j n → rows ≡ map (made (intervals_of first) hs now) hs
all_renewed first rows ended hs now j n same long past a =
    sym (take_all j rows (omega (arith, past, long, same_length first hs same))) ∙ a.has_made
    ∙ ap (map (made (intervals_of first) hs now)) (take_all j hs past)

pub renewed_ended : (first rows ended : List ListenerRow) (hs : List Hearer) (now : Moment) (j n : ℕ) →
    seats_of (listeners_of first) ≡ seats_of hs → length hs ≤ j → Renews first rows ended hs now j n →
    intervals_of (take n ended) ≡ without_flows (flows_among hs) (intervals_of first)
renewed_ended first rows ended hs now j n same past a = a.has_ended
    ∙ ap (λ (l : List ListenerRow). without_flows (flows_among hs) (intervals_of l))
    (take_all j first (omega (arith, past, same_length first hs same)))

-- ## Reported rows

pub told_row : (end : Option Moment) (before : List Entry) (rows : List ListenerRow) (i : ℕ) (r : ListenerRow) →
    i < length rows → get_or rows i r ≡ r →
    (before ++ map (entry_until end) (intervals_of (take i rows))) ++ map (entry_until end) r.row ≡
    before ++ map (entry_until end) (intervals_of (take (i + 1) rows))
told_row end before rows i r within is =
    let front = take i rows in
    append_assoc before (map (entry_until end) (intervals_of front)) (map (entry_until end) r.row)
    ∙ ap (λ (l : List Entry). before ++ l) (sym (map-append (entry_until end) (intervals_of front) r.row)
    ∙ ap (map (entry_until end)) (sym (intervals_push front r)
    ∙ ap intervals_of (sym (take_more rows i r within ∙ ap (λ (x : ListenerRow). front ++ x ∷ []) is))))

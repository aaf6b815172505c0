-- Finding the interval of a flow among intervals that are in order of their pairs.
use Rattle.std.proofs.Common.{◌≡◌, ℕ, ◌<◌, ◌≤◌, suc, zero, Bool, true, false, List, [], ◌∷◌, length, get_or, take, Option, Some, None, refl, sym, ap, subst, ◌∙◌, inl, inr, arith}
use Rattle.std.specs.Prelude.{find}
use Rattle.std.specs.Option.{option_map}
use Rattle.std.proofs.lemmas.Bool.{false_from_ne_true}
use Rattle.std.proofs.lemmas.List.{take_all}
use Rattle.std.proofs.lemmas.List.Elements.{All-head, All-tail}
use Rattle.mg_heard.specs.OpenFlow.{is_same}
use Rattle.mg_heard.specs.aids.Opening.{AreBefore, IsRising, beginning_among, key_of}
use Rattle.mg_heard.specs.declared.moment.Moment.{Moment}
use Rattle.mg_heard.specs.declared.open_flow.OpenFlow.{OpenFlow}
use Rattle.mg_heard.specs.declared.open_interval.OpenInterval.{OpenInterval}
use Rattle.mg_heard.proofs.Members.{In, Pairs, pairs_from_all}
use Rattle.mg_heard.proofs.SameLemmas.{same}

abbrev pub IsOf : OpenFlow → OpenInterval → Bool
IsOf flow x = is_same flow x.flow

abbrev Rising : List OpenInterval → Type 0
Rising xs = Pairs (λ x later. key_of x.flow < key_of later.flow) xs

abbrev begun : Option OpenInterval → Option Moment
begun o = option_map (λ x. x.first) o

-- An interval whose pair has another key isn't an interval of this flow.
pub other_key : (flow : OpenFlow) (x : OpenInterval) → (key_of x.flow ≡ key_of flow → ⊥) → IsOf flow x ≡ false
other_key flow x h = false_from_ne_true (IsOf flow x) (λ e. h (ap key_of (sym ((same flow x.flow).0 e))))

none_of : (flow : OpenFlow) (xs : List OpenInterval) → ((x : OpenInterval) → In x xs → IsOf flow x ≡ false) →
    find (IsOf flow) xs ≡ None
none_of flow [] h = refl
none_of flow (x ∷ xs) h = rw (h x (inl refl)) (none_of flow xs (λ y i. h y (inr i)))

passed_by : (flow : OpenFlow) (y : OpenInterval) (xs : List OpenInterval) (o : Option OpenInterval) →
    key_of y.flow < key_of flow → find (IsOf flow) xs ≡ o → find (IsOf flow) (y ∷ xs) ≡ o
passed_by flow y xs o less h = rw (other_key flow y (λ e. omega arith)) h

none_before : (flow : OpenFlow) (xs : List OpenInterval) → AreBefore flow xs → find (IsOf flow) xs ≡ None
none_before flow [] h = refl
none_before flow (x ∷ xs) h = passed_by flow x xs None (All-head (λ x. key_of x.flow < key_of flow) x xs h)
    (none_before flow xs (All-tail (λ x. key_of x.flow < key_of flow) x xs h))

found_here : (flow : OpenFlow) (xs : List OpenInterval) (from : ℕ) (x : OpenInterval) → from < length xs →
    get_or xs from x ≡ x → AreBefore flow (take from xs) → IsOf flow x ≡ true → find (IsOf flow) xs ≡ Some x
found_here flow [] from x within at h e = absurd (omega arith)
found_here flow (y ∷ xs) zero x within at h e = rw at (rw e refl)
found_here flow (y ∷ xs) (suc from) x within at h e = passed_by flow y xs (Some x)
    (All-head (λ x. key_of x.flow < key_of flow) y (take from xs) h)
    (found_here flow xs from x (omega arith) at (All-tail (λ x. key_of x.flow < key_of flow) y (take from xs) h) e)

none_here : (flow : OpenFlow) (xs : List OpenInterval) (from : ℕ) (x : OpenInterval) → Rising xs → from < length xs →
    get_or xs from x ≡ x → AreBefore flow (take from xs) → key_of flow ≤ key_of x.flow → IsOf flow x ≡ false →
    find (IsOf flow) xs ≡ None
none_here flow [] from x rising within at h above e = absurd (omega arith)
none_here flow (y ∷ xs) zero x rising within at h above e = rw at (rw e (none_of flow xs (λ z i.
    let more = rising.0 z i in
    let same_key = ap (λ (u : OpenInterval). key_of u.flow) at in
    other_key flow z (λ k. omega arith))))
none_here flow (y ∷ xs) (suc from) x rising within at h above e = passed_by flow y xs None
    (All-head (λ x. key_of x.flow < key_of flow) y (take from xs) h)
    (none_here flow xs from x rising.1 (omega arith) at
    (All-tail (λ x. key_of x.flow < key_of flow) y (take from xs) h) above e)

-- ## When a flow began

pub begun_nowhere : (flow : OpenFlow) (xs : List OpenInterval) (from : ℕ) → length xs ≤ from →
    AreBefore flow (take from xs) → None ≡ beginning_among xs flow
begun_nowhere flow xs from past h = sym (ap begun (none_before flow xs
    (subst (λ (l : List OpenInterval). AreBefore flow l) (take_all from xs past) h)))

pub begun_here : (flow : OpenFlow) (xs : List OpenInterval) (from : ℕ) (x : OpenInterval) → from < length xs →
    get_or xs from x ≡ x → AreBefore flow (take from xs) → is_same flow x.flow ≡ true →
    Some x.first ≡ beginning_among xs flow
begun_here flow xs from x within at h e = sym (ap begun (found_here flow xs from x within at h e))

pub not_begun : (flow : OpenFlow) (xs : List OpenInterval) (from : ℕ) (x : OpenInterval) → IsRising xs →
    from < length xs → get_or xs from x ≡ x → AreBefore flow (take from xs) → key_of flow ≤ key_of x.flow →
    is_same flow x.flow ≡ false → None ≡ beginning_among xs flow
not_begun flow xs from x rising within at h above e = sym (ap begun (none_here flow xs from x
    (pairs_from_all (λ x later. key_of x.flow < key_of later.flow) xs rising) within at h above e))

-- The key that was read at a place is the key of the interval there.
pub key_here : (xs : List OpenInterval) (from key : ℕ) (x d : OpenInterval) →
    ((d : OpenInterval) → x ≡ get_or xs from d) → key ≡ key_of (get_or xs from d).flow → key ≡ key_of x.flow
key_here xs from key x d is e = e ∙ ap (λ (u : OpenInterval). key_of u.flow) (sym (is d))

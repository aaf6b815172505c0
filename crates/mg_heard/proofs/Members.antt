-- Membership in a list by recursion, for proofs by induction.
use Rattle.std.proofs.Common.{◌≡◌, ℕ, ◌<◌, suc, zero, Bool, true, false, cond, List, [], ◌∷◌, ◌++◌, length, get_or, map, refl, sym, ap, subst, ◌∙◌, inl, inr, ◌⊎◌, arith}
use Rattle.std.specs.List.{filter, flat_map, Contains, Any, AllPairs}

abbrev pub In : {X : Type 0} → X → List X → Type 0
In x [] = ⊥
In x (y ∷ ys) = (x ≡ y) ⊎ In x ys

abbrev pub Pairs : {X : Type 0} → (X → X → Type 0) → List X → Type 0
Pairs R [] = Unit {0}
Pairs {X} R (x ∷ xs) = ((y : X) → In y xs → R x y) × Pairs R xs

pub in_left : {X : Type 0} (x : X) (xs ys : List X) → In x xs → In x (xs ++ ys)
in_left x [] ys h = absurd h
in_left x (y ∷ xs) ys (inl e) = inl e
in_left x (y ∷ xs) ys (inr h) = inr (in_left x xs ys h)

pub in_right : {X : Type 0} (x : X) (xs ys : List X) → In x ys → In x (xs ++ ys)
in_right x [] ys h = h
in_right x (y ∷ xs) ys h = inr (in_right x xs ys h)

pub in_cases : {X : Type 0} (x : X) (xs ys : List X) → In x (xs ++ ys) → In x xs ⊎ In x ys
in_cases x [] ys h = inr h
in_cases x (y ∷ xs) ys (inl e) = inl (inl e)
in_cases x (y ∷ xs) ys (inr h) = elim (in_cases x xs ys h) [ inl k ↦ inl (inr k) | inr k ↦ inr k ]

pub in_map : {X Y : Type 0} (f : X → Y) (x : X) (xs : List X) → In x xs → In (f x) (map f xs)
in_map f x [] h = absurd h
in_map f x (y ∷ xs) (inl e) = inl (ap f e)
in_map f x (y ∷ xs) (inr h) = inr (in_map f x xs h)

pub from_map : {X Y : Type 0} (f : X → Y) (y : Y) (xs : List X) → In y (map f xs) → (x : X) × In x xs × (y ≡ f x)
from_map f y [] h = absurd h
from_map f y (x ∷ xs) (inl e) = (x, inl refl, e)
from_map f y (x ∷ xs) (inr h) = let (z, k, e) = from_map f y xs h in (z, inr k, e)

in_filter_at : {X : Type 0} (x y : X) (b : Bool) (p : X → Bool) (xs : List X) → p y ≡ b → (x ≡ y) ⊎ In x xs → p x ≡ true →
    (In x xs → In x (filter p xs)) → In x (cond b (y ∷ filter p xs) (filter p xs))
in_filter_at x y true p xs e (inl h) t k = inl h
in_filter_at x y true p xs e (inr h) t k = inr (k h)
in_filter_at x y false p xs e (inl h) t k = absurd (cc (ap p h))
in_filter_at x y false p xs e (inr h) t k = k h

pub in_filter : {X : Type 0} (p : X → Bool) (x : X) (xs : List X) → In x xs → p x ≡ true → In x (filter p xs)
in_filter p x [] h t = absurd h
in_filter p x (y ∷ xs) h t = in_filter_at x y (p y) p xs refl h t (λ k. in_filter p x xs k t)

from_filter_at : {X : Type 0} (x y : X) (b : Bool) (p : X → Bool) (xs : List X) → p y ≡ b →
    In x (cond b (y ∷ filter p xs) (filter p xs)) → (In x (filter p xs) → In x xs × (p x ≡ true)) →
    ((x ≡ y) ⊎ In x xs) × (p x ≡ true)
from_filter_at x y true p xs e (inl h) k = (inl h, ap p h ∙ e)
from_filter_at x y true p xs e (inr h) k = let r = k h in (inr r.0, r.1)
from_filter_at x y false p xs e h k = let r = k h in (inr r.0, r.1)

pub from_filter : {X : Type 0} (p : X → Bool) (x : X) (xs : List X) → In x (filter p xs) → In x xs × (p x ≡ true)
from_filter p x [] h = absurd h
from_filter p x (y ∷ xs) h = from_filter_at x y (p y) p xs refl h (λ k. from_filter p x xs k)

pub in_flat_map : {X Y : Type 0} (f : X → List Y) (x : X) (y : Y) (xs : List X) → In x xs → In y (f x) → In y (flat_map f xs)
in_flat_map f x y [] h k = absurd h
in_flat_map f x y (z ∷ xs) (inl e) k = in_left y (f z) (flat_map f xs) (subst (λ u. In y (f u)) e k)
in_flat_map f x y (z ∷ xs) (inr h) k = in_right y (f z) (flat_map f xs) (in_flat_map f x y xs h k)

pub from_flat_map : {X Y : Type 0} (f : X → List Y) (y : Y) (xs : List X) → In y (flat_map f xs) →
    (x : X) × In x xs × In y (f x)
from_flat_map f y [] h = absurd h
from_flat_map f y (z ∷ xs) h = elim (in_cases y (f z) (flat_map f xs) h) [
  | inl k ↦ (z, inl refl, k)
  | inr k ↦ let (x, j, r) = from_flat_map f y xs k in (x, inr j, r)
]

-- ## Membership as `std` defines it

pub in_at : {X : Type 0} (xs : List X) (k : ℕ) (d : X) → k < length xs → In (get_or xs k d) xs
in_at [] k d h = absurd (omega arith)
in_at (x ∷ xs) zero d h = inl refl
in_at (x ∷ xs) (suc k) d h = inr (in_at xs k d (omega arith))

pub at_from_in : {X : Type 0} (x : X) (xs : List X) → In x xs → Contains xs x
at_from_in x [] h = absurd h
at_from_in x (y ∷ xs) (inl e) = (0, omega arith, sym e)
at_from_in x (y ∷ xs) (inr h) = let (k, within, is) = at_from_in x xs h in (suc k, omega arith, is)

pub in_from_at : {X : Type 0} (x : X) (xs : List X) → Contains xs x → In x xs
in_from_at x xs (k, within, is) = subst (λ y. In y xs) is (in_at xs k x within)

pub any_from_in : {X : Type 0} (P : X → Type 0) (x : X) (xs : List X) → In x xs → P x → Any P xs
any_from_in P x xs h p = let (k, within, is) = at_from_in x xs h in (k, x, within, is, p)

pub in_from_any : {X : Type 0} (P : X → Type 0) (xs : List X) → Any P xs → (x : X) × In x xs × P x
in_from_any P xs (k, x, within, is, p) = (x, in_from_at x xs (k, within, is), p)

-- ## Pairs

pub pairs_append : {X : Type 0} (R : X → X → Type 0) (xs ys : List X) → Pairs R xs → Pairs R ys →
    ((x y : X) → In x xs → In y ys → R x y) → Pairs R (xs ++ ys)
pairs_append R [] ys h k cross = k
pairs_append R (x ∷ xs) ys h k cross = (
  λ y r. elim (in_cases y xs ys r) [ inl j ↦ h.0 y j | inr j ↦ cross x y (inl refl) j ],
  pairs_append R xs ys h.1 k (λ a b i j. cross a b (inr i) j),
)

pub pairs_map : {X Y : Type 0} (R : X → X → Type 0) (S : Y → Y → Type 0) (f : X → Y) (xs : List X) →
    ((x y : X) → R x y → S (f x) (f y)) → Pairs R xs → Pairs S (map f xs)
pairs_map R S f [] k h = tt
pairs_map R S f (x ∷ xs) k h = (
  λ y r. let (z, j, e) = from_map f y xs r in subst (λ u. S (f x) u) (sym e) (k x z (h.0 z j)),
  pairs_map R S f xs k h.1,
)

pairs_filter_at : {X : Type 0} (R : X → X → Type 0) (p : X → Bool) (x : X) (xs : List X) (b : Bool) →
    ((y : X) → In y xs → R x y) → Pairs R (filter p xs) → Pairs R (cond b (x ∷ filter p xs) (filter p xs))
pairs_filter_at R p x xs true h k = (λ y j. h y (from_filter p y xs j).0, k)
pairs_filter_at R p x xs false h k = k

pub pairs_filter : {X : Type 0} (R : X → X → Type 0) (p : X → Bool) (xs : List X) → Pairs R xs → Pairs R (filter p xs)
pairs_filter R p [] h = tt
pairs_filter R p (x ∷ xs) h = pairs_filter_at R p x xs (p x) h.0 (pairs_filter R p xs h.1)

pub pairs_flat_map : {X Y : Type 0} (R : X → X → Type 0) (S : Y → Y → Type 0) (f : X → List Y) (xs : List X) →
    ((x : X) → Pairs S (f x)) → ((x y : X) (a b : Y) → R x y → In a (f x) → In b (f y) → S a b) → Pairs R xs →
    Pairs S (flat_map f xs)
pairs_flat_map R S f [] own cross h = tt
pairs_flat_map R S f (x ∷ xs) own cross h = pairs_append S (f x) (flat_map f xs) (own x)
    (pairs_flat_map R S f xs own cross h.1)
    (λ a b i j. let (y, k, r) = from_flat_map f b xs j in cross x y a b (h.0 y k) i r)

pub pairs_from_all : {X : Type 0} (R : X → X → Type 0) (xs : List X) → AllPairs R xs → Pairs R xs
pairs_from_all R [] h = tt
pairs_from_all R (x ∷ xs) h = (
  λ y r. let (k, within, is) = at_from_in y xs r in
      subst (λ u. R x u) is (h 0 (suc k) y (omega arith) (omega arith)),
  pairs_from_all R xs (λ i j d below within. h (suc i) (suc j) d (omega arith) (omega arith)),
)

pub all_from_pairs : {X : Type 0} (R : X → X → Type 0) (xs : List X) → Pairs R xs → AllPairs R xs
all_from_pairs R [] h i j d below within = absurd (omega arith)
all_from_pairs R (x ∷ xs) h i zero d below within = absurd (omega arith)
all_from_pairs R (x ∷ xs) h zero (suc j) d below within = h.0 (get_or xs j d) (in_at xs j d (omega arith))
all_from_pairs R (x ∷ xs) h (suc i) (suc j) d below within =
    all_from_pairs R xs h.1 i j d (omega arith) (omega arith)

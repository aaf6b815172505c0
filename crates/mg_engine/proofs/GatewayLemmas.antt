-- Lookups in a gateway that an engine represents.
use Rattle.mg_engine.proofs.Common.{inl, inr, ◌≡◌, ℕ, suc, ◌<◌, eqb, Bool, length, get_or, arith, List, [], ◌∷◌, map, Option, Some, None, refl, sym, option_map, eqb-true, same_Some, Record, record_at, Gateway, TerminationMedia, media_of, EngineState, StandsFor, IsMediaOf, media_at, find, cases_Bool, nat_tests, frame_of_row}
use Rattle.mg_rooms.proofs.OrderLemmas as orders

abbrev some : {A : Type 0} → A → Option A
some x = Some x

-- ## Searches by key

module _ {A : Type 0} (key : A → ℕ) where
  -- If f keeps the key, a search in the mapped list finds the mapped item.
  pub found_in_map : (f : A → A) (n : ℕ) (xs : List A) → ((x : A) → key (f x) ≡ key x) →
      find (λ x. eqb (key x) n) (map f xs) ≡ option_map f (find (λ x. eqb (key x) n) xs)
  found_in_map f n [] same = refl
  found_in_map f n (x ∷ xs) same = grind (arith, nat_tests, same x, found_in_map f n xs same)

  pub found_key : (n : ℕ) (xs : List A) (y : A) → find (λ x. eqb (key x) n) xs ≡ Some y → key y ≡ n
  found_key n xs y h = eqb-true (key y) n (orders.found_key (λ x. eqb (key x) n) xs y h)

abbrev pub Placed : {A : Type 0} → List A → A → A → Type 0
Placed xs y d = (i : ℕ) × (i < length xs) × (get_or xs i d ≡ y)

-- An item that is found is in the list at some index.
pub found_place : {A : Type 0} (p : A → Bool) (xs : List A) (y d : A) → find p xs ≡ Some y → Placed xs y d
found_place p [] y d h = absurd (cc h)
found_place p (x ∷ xs) y d h = elim (cases_Bool (p x)) [
  | inl e ↦ (0, omega arith, same_Some x y (rw e at h))
  | inr e ↦ let (i, lt, is) = found_place p xs y d (rw e at h) in (suc i, omega arith, is)
]

-- If two lists have the same keys, a key that is found in one list is found in the other.
pub found_too : {A B : Type 0} (key : A → ℕ) (name : B → ℕ) (n : ℕ) (xs : List A) (ys : List B) →
    map key xs ≡ map name ys → (x : A) → find (λ x. eqb (key x) n) xs ≡ Some x →
    (y : B) × (find (λ y. eqb (name y) n) ys ≡ Some y)
found_too key name n [] ys h x e = absurd (cc e)
found_too key name n (a ∷ xs) [] h x e = absurd (cc h)
found_too key name n (a ∷ xs) (b ∷ ys) h x e =
    let heads : key a ≡ name b = cc h in
    let tails : map key xs ≡ map name ys = cc h in
    elim (cases_Bool (eqb (name b) n)) [
      | inl is ↦ (b, rw is refl)
      | inr is ↦ let (y, found) = found_too key name n xs ys tails x (rw (heads, is) at e) in (y, rw is found)
    ]

-- Each termination has media, and they are stored in its slot.
pub has_media : (k : EngineState) (w : Gateway) (n : ℕ) (r : Record) → StandsFor k w → record_at k.rooms n ≡ Some r →
    (s : TerminationMedia) × (media_of w n ≡ Some s) ×
    IsMediaOf k.config (media_at k.media r.slot) (frame_of_row k.sums r.slot) s
has_media k w n r h found =
    let (s, there) = found_too (λ r. r.number) (λ s. s.number) n k.rooms.terminations w.media (sym h.numbers) r found in
    (s, there, h.media n r s found there)

-- ## The slot of a termination

pub with_slot : (o : Option Record) (slot : ℕ) → option_map (λ r. r.slot) o ≡ Some slot → (r : Record) ×
    (o ≡ Some r) × (r.slot ≡ slot)
with_slot (Some r) slot h = (r, refl, same_Some r.slot slot h)
with_slot None slot h = absurd (cc h)

pub with_no_slot : (o : Option Record) → option_map (λ r. r.slot) o ≡ None → o ≡ None
with_no_slot (Some r) h = absurd (cc h)
with_no_slot None h = refl

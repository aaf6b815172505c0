-- Lemmas on tables whose entries name their own indices.
use Rattle.mg_rooms.proofs.Common.{◌≡◌, ℕ, get_or, zero, suc, ◌+◌, ◌<◌, ◌≤◌, ◌⊎◌, Bool, true, false, not, List, [], ◌∷◌, length, Option, Some, None, refl, sym, ◌∙◌, ap, arith, inl, inr, set, replicate, ◌==◌, slice_get, find, is_none, IfSome, eq-eqb, ne_eqb, list_any, position_from, range_with_len, in_order, has_key, change}
use Rattle.std.proofs.lemmas.Bool.Decides.{nat_tests}
use Rattle.std.proofs.lemmas.Bool.{not-true, true≢false}
use Rattle.std.specs.Option.{is_some}
use Rattle.mg_rooms.specs.aids.Tables.{IsTable}
use Rattle.std.proofs.lemmas.List.{length-replicate, length-set}
use Rattle.std.proofs.lemmas.Option.{get_or_from_slice_get}
use Rattle.mg_rooms.specs.aids.Order.{place}
use Rattle.mg_rooms.proofs.OrderLemmas.{KeepsKey, change_at, find-in_order, find-in_order_none, first_at_zero, found_key}

-- The entry at an index, or `None` past the end.
abbrev pub entry_at : {A : Type 0} → Option (Option A) → Option A
entry_at None = None
entry_at (Some o) = o

get-set : {A : Type 0} (t : List A) (s i : ℕ) (o x : A) → slice_get (set t s o) i ≡ Some x →
    ((i ≡ s) × (o ≡ x)) ⊎ (slice_get t i ≡ Some x)
get-set [] s i o x h = inr h
get-set (y ∷ t) zero zero o x h = let same : o ≡ x = cc in inl (refl, same)
get-set (y ∷ t) zero (suc i) o x h = inr h
get-set (y ∷ t) (suc s) zero o x h = inr h
get-set (y ∷ t) (suc s) (suc i) o x h =
    elim (get-set t s i o x h) [ inl p ↦ inl (ap suc p.0, p.1) | inr p ↦ inr p ]

get-replicate_none : {A : Type 0} (n i : ℕ) (x : A) → slice_get (replicate n None) i ≡ Some (Some x) → ⊥
get-replicate_none zero i x h = cc
get-replicate_none (suc n) zero x h = cc
get-replicate_none (suc n) (suc i) x h = get-replicate_none n i x h

pub position_within : {A : Type 0} (p : A → Bool) (k : ℕ) (t : List A) (s : ℕ) → position_from p k t ≡ Some s →
    s < length t + k
position_within p k [] s h = absurd (cc)
position_within p k (o ∷ t) s h = grind (arith, position_within p (k + 1) t s)

-- A number that is found in a range is in the range and passes the test.
pub find_in_range : (p : ℕ → Bool) (k n s : ℕ) → find p (range_with_len k n) ≡ Some s → (p s ≡ true) × (s < n + k) ×
    (k ≤ s)
find_in_range p k zero s h = absurd (cc)
find_in_range p k (suc n) s h = grind (arith, find_in_range p (k + 1) n s)

-- The table has the key n only at index s.
abbrev pub OnlyAt : {A : Type 0} → (A → ℕ) → ℕ → ℕ → List (Option A) → Type 0
OnlyAt {A} key n s t = (i : ℕ) (x : A) → slice_get t i ≡ Some (Some x) → key x ≡ n → i ≡ s

module _ {A : Type 0} (key spot : A → ℕ) where
  pub IsTable-empty : (next n : ℕ) → IsTable {A = A} key spot next n (replicate n None)
  IsTable-empty next n = record {
    len = length-replicate {A = Option A} n None;
    at_spot = λ i x h. absurd (get-replicate_none n i x h);
    below = λ i x h. absurd (get-replicate_none n i x h);
    once = λ i j x y h k same. absurd (get-replicate_none n i x h);
  }

  pub IsTable-set : (next later size : ℕ) (t : List (Option A)) (s : ℕ) (o : Option A) → next ≤ later →
      IfSome o (λ x. (spot x ≡ s) × (key x < later) × OnlyAt key (key x) s t) → IsTable key spot next size t →
      IsTable key spot later size (set t s o)
  IsTable-set next later size t s None le is h = grind (arith, length-set t s, get-set t s)
  IsTable-set next later size t s (Some y) le is h =
      grind (arith, nat_tests, length-set t s, h.len, get-set t s, is.0, h.at_spot, h.below, is.2, h.once)

  find-place_other : (p : A → Bool) (x : A) (xs : List A) → p x ≡ false → find p (place key x xs) ≡ find p xs
  find-place_other p x [] e = rw e refl
  find-place_other p x (y ∷ ys) e = grind (arith, find-place_other p x ys e)

  find-place_only : (p : A → Bool) (x : A) (xs : List A) → p x ≡ true → find p xs ≡ None →
      find p (place key x xs) ≡ Some x
  find-place_only p x [] e none = rw e refl
  find-place_only p x (y ∷ ys) e none = grind (arith, find-place_only p x ys e)

  -- No entry names an index below the first index.
  find_later : (t : List (Option A)) (k n : ℕ) → ((i : ℕ) (x : A) → slice_get t i ≡ Some (Some x) → spot x ≡ i + k) →
      n < k → find (λ x. spot x == n) (in_order key t) ≡ None
  find_later [] k n h lt = refl
  find_later (None ∷ t) k n h lt = find_later t (k + 1) n (λ i x at. h (suc i) x at ∙ omega arith) (omega arith)
  find_later (Some y ∷ t) k n h lt =
      let is : spot y ≡ 0 + k = h 0 y refl in
      find-place_other (λ x. spot x == n) y (in_order key t) (ne_eqb (spot y) n (λ q. omega arith))
      ∙ find_later t (k + 1) n (λ i x at. h (suc i) x at ∙ omega arith) (omega arith)

  find_at_spot : (t : List (Option A)) (k s j : ℕ) →
      ((i : ℕ) (x : A) → slice_get t i ≡ Some (Some x) → spot x ≡ i + k) → j ≡ s + k →
      find (λ x. spot x == j) (in_order key t) ≡ entry_at (slice_get t s)
  find_at_spot [] k s j h eq = refl
  find_at_spot (None ∷ t) k zero j h eq =
      find_later t (k + 1) j (λ i x at. h (suc i) x at ∙ omega arith) (omega arith)
  find_at_spot (None ∷ t) k (suc s) j h eq =
      find_at_spot t (k + 1) s j (λ i x at. h (suc i) x at ∙ omega arith) (omega arith)
  find_at_spot (Some y ∷ t) k zero j h eq =
      let is : spot y ≡ 0 + k = h 0 y refl in
      find-place_only (λ x. spot x == j) y (in_order key t) (eq-eqb (spot y) j (omega arith))
      (find_later t (k + 1) j (λ i x at. h (suc i) x at ∙ omega arith) (omega arith))
  find_at_spot (Some y ∷ t) k (suc s) j h eq =
      let is : spot y ≡ 0 + k = h 0 y refl in
      find-place_other (λ x. spot x == j) y (in_order key t) (ne_eqb (spot y) j (λ q. omega arith))
      ∙ find_at_spot t (k + 1) s j (λ i x at. h (suc i) x at ∙ omega arith) (omega arith)

  -- A search for an index finds the entry at this index.
  pub find_spot : (next size : ℕ) (t : List (Option A)) (s : ℕ) → IsTable key spot next size t →
      find (λ x. spot x == s) (in_order key t) ≡ entry_at (slice_get t s)
  find_spot next size t s h = find_at_spot t 0 s s (λ i x at. h.at_spot i x at ∙ omega arith) (omega arith)

  any_found : (p : A → Bool) (xs : List A) → list_any p xs ≡ is_some (find p xs)
  any_found p [] = refl
  any_found p (x ∷ xs) = grind (arith, any_found p xs)

  -- An item of the list names an index if and only if the table has an entry at this index.
  held-in_order : (next size : ℕ) (t : List (Option A)) (s : ℕ) → IsTable key spot next size t →
      list_any (λ x. spot x == s) (in_order key t) ≡ is_some (entry_at (slice_get t s))
  held-in_order next size t s h = any_found (λ x. spot x == s) (in_order key t) ∙ ap is_some (find_spot next size t s h)

  free_from : (held : ℕ → Bool) (k : ℕ) (t : List (Option A)) →
      ((i j : ℕ) → j ≡ i + k → held j ≡ is_some (entry_at (slice_get t i))) →
      position_from is_none k t ≡ find (λ s. not (held s)) (range_with_len k (length t))
  free_from held k [] h = refl
  free_from held k (None ∷ t) h = let is : held k ≡ false = h 0 k (omega arith) in rw is refl
  free_from held k (Some y ∷ t) h =
      let is : held k ≡ true = h 0 k (omega arith) in
      rw is (free_from held (k + 1) t (λ i j eq. h (suc i) j (omega arith)))

  -- The first empty entry has the lowest index that no item names.
  pub free-in_order : (next size : ℕ) (t : List (Option A)) → IsTable key spot next size t →
      position_from is_none 0 t ≡ find (λ s. not (list_any (λ x. spot x == s) (in_order key t))) (range_with_len 0 size)
  free-in_order next size t h =
      grind (arith, free_from (λ s. list_any (λ x. spot x == s) (in_order key t)) 0 t, held-in_order next size t)

  -- The entry at the lowest index that no item names is empty.
  pub empty_place : (next size : ℕ) (t : List (Option A)) (s : ℕ) → IsTable key spot next size t →
      find (λ m. not (list_any (λ x. spot x == m) (in_order key t))) (range_with_len 0 size) ≡ Some s →
      (slice_get t s ≡ Some None) × (s < length t)
  empty_place next size t s h found =
      let (passed, below, above) = find_in_range (λ m. not (list_any (λ x. spot x == m) (in_order key t))) 0 size s
      found in
      let len = h.len in
      (empty_within t s (omega arith) (sym (held-in_order next size t s h) ∙ not-true _ passed), omega arith)
    where
      empty_within : (u : List (Option A)) (i : ℕ) → i < length u → is_some (entry_at (slice_get u i)) ≡ false →
          slice_get u i ≡ Some None
      empty_within [] i lt e = absurd (omega arith)
      empty_within (None ∷ u) zero lt e = refl
      empty_within (Some x ∷ u) zero lt e = absurd (true≢false e)
      empty_within (o ∷ u) (suc i) lt e = empty_within u i (omega arith) e

  -- A search for a key finds the entry at the first index that has the key.
  pub lookup_some : (n : ℕ) (t : List (Option A)) (s : ℕ) (o : Option A) →
      Some s ≡ position_from (has_key key n) 0 t → o ≡ get_or t s o → o ≡ find (λ x. key x == n) (in_order key t)
  lookup_some n t s o found at =
      let (x, is, same) = find-in_order key n t s (first_at_zero (has_key key n) t s (sym found)) in
      at ∙ get_or_from_slice_get t s (Some x) o is ∙ sym same

  pub lookup_none : (n : ℕ) (t : List (Option A)) → None ≡ position_from (has_key key n) 0 t →
      None ≡ find (λ x. key x == n) (in_order key t)
  lookup_none n t found = sym (find-in_order_none key n 0 t (sym found))

  -- A table stays valid when an entry is removed, or changes but keeps its key and index.
  pub table_change : (next size : ℕ) (t : List (Option A)) (n s : ℕ) (f : A → Option A) → KeepsKey key n f →
      ((x : A) → find (λ y. key y == n) (in_order key t) ≡ Some x → IfSome (f x) (λ y. spot y ≡ spot x)) →
      IsTable key spot next size t → Some s ≡ position_from (has_key key n) 0 t →
      (x : A) × (slice_get t s ≡ Some (Some x)) × IsTable key spot next size (set t s (f x)) ×
      (in_order key (set t s (f x)) ≡ change key n f (in_order key t))
  table_change next size t n s f keeps stays h found =
      let (x, at, is, change_is) = change_at key n f t s keeps found in
      let number : (key x == n) ≡ true = found_key (λ y. key y == n) (in_order key t) x is in (
        x,
        at,
        IsTable-set next next size t s (f x) (omega arith) (kept x (f x) at (keeps x number) (stays x is)) h,
        change_is,
      )
    where
      kept : (x : A) (o : Option A) → slice_get t s ≡ Some (Some x) → IfSome o (λ y. key y ≡ key x) →
          IfSome o (λ y. spot y ≡ spot x) → IfSome o (λ y. (spot y ≡ s) × (key y < next) × OnlyAt key (key y) s t)
      kept x None at same there = tt
      kept x (Some y) at same there = (
        there ∙ h.at_spot s x at,
        rw same (h.below s x at),
        λ i z got key_is. h.once i s z x got at (key_is ∙ same),
      )

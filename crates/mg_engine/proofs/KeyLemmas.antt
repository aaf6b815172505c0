-- Lookups in lists in which the item with a key changes.
use Rattle.mg_engine.proofs.Common.{◌≡◌, ℕ, zero, suc, ◌<◌, ◌≤◌, length, get_or, eqb, not, Bool, true, List, [], ◌∷◌, ◌++◌, map, Option, Some, None, refl, ap, ◌∙◌, arith, count_by, option_to_list, option_map, map-append, change, find, filter, one, count-cons, count-found, count-push, counted_any, find-none, find-push_none, nat_tests, list_any_at}

-- If at most one item of a list passes a test, and the last item passes it, no earlier item does.
pub none_before_last : {A : Type 0} (p : A → Bool) (xs : List A) (x : A) → p x ≡ true → count_by p (xs ++ x ∷ []) ≤ 1 →
    find p xs ≡ None
none_before_last p xs x e few =
    let last : one (p x) ≡ 1 = rw e refl in find-none p xs (omega (arith, count-push p xs x))

module _ {A : Type 0} (key : A → ℕ) where
  abbrev at : ℕ → A → Bool
  at n x = eqb (key x) n

  pub found_push : (n : ℕ) (xs : List A) (x : A) → eqb (key x) n ≡ true → find (at n) xs ≡ None →
      find (at n) (xs ++ x ∷ []) ≡ Some x
  found_push n xs x e none = find-push_none (at n) xs x none ∙ rw e refl

  -- After f changes the first item with the key, but not its key, a search for the key finds the changed item.
  pub found_changed : (f : A → A) (n : ℕ) (xs : List A) → ((x : A) → key (f x) ≡ key x) →
      find (at n) (change key n (λ y. Some (f y)) xs) ≡ option_map f (find (at n) xs)
  found_changed f n [] keeps = refl
  found_changed f n (x ∷ xs) keeps = grind (arith, nat_tests, keeps x, found_changed f n xs keeps)

  -- After the first item with the key is replaced by another item with this key, a search for the key finds the
  -- replacement.
  pub found_replaced : (r : A) (n : ℕ) (xs : List A) (y : A) → key r ≡ n → find (at n) xs ≡ Some y →
      find (at n) (change key n (λ _. Some r) xs) ≡ Some r
  found_replaced r n [] y same found = absurd (cc found)
  found_replaced r n (x ∷ xs) y same found = grind (arith, nat_tests, found_replaced r n xs y)

  -- After the only item with the key is removed, a search for the key finds nothing.
  pub none_left : (n : ℕ) (xs : List A) → count_by (at n) xs ≤ 1 → find (at n) (change key n (λ _. None) xs) ≡ None
  none_left n [] few = refl
  none_left n (x ∷ xs) few =
      grind (arith, nat_tests, count-cons (at n) x xs, find-none (at n) xs, none_left n xs)

  -- If f has the same value for an item before and after a change, the list mapped by f is unchanged.
  pub mapped_kept : {B : Type 0} (f : A → B) (n : ℕ) (g : A → Option A) (xs : List A) (y : A) →
      map f (option_to_list (g y)) ≡ f y ∷ [] → find (at n) xs ≡ Some y → map f (change key n g xs) ≡ map f xs
  mapped_kept f n g [] y same found = refl
  mapped_kept f n g (x ∷ xs) y same found =
      grind (arith, nat_tests, map-append f (option_to_list (g x)) xs, mapped_kept f n g xs y same)

  -- Removing an item removes its key from the list of keys.
  pub keys_left : (n : ℕ) (xs : List A) → map key (change key n (λ _. None) xs) ≡
      change (λ k. k) n (λ _. None) (map key xs)
  keys_left n [] = refl
  keys_left n (x ∷ xs) = grind (arith, nat_tests, keys_left n xs)

  module _ (spot : A → ℕ) (s : ℕ) where
    abbrev there : A → Bool
    there x = eqb (spot x) s

    all_stay : (xs : List A) → count_by there xs ≡ 0 → filter (λ k. not (eqb k s)) (map spot xs) ≡ map spot xs
    all_stay [] none = refl
    all_stay (x ∷ xs) none = grind (arith, nat_tests, count-cons there x xs, all_stay xs)

    -- If at most one item has a spot, removing this item removes its spot from the list of spots.
    pub spots_left : (n : ℕ) (xs : List A) (y : A) → count_by there xs ≤ 1 → find (at n) xs ≡ Some y → spot y ≡ s →
        filter (λ k. not (eqb k s)) (map spot xs) ≡ map spot (change key n (λ _. None) xs)
    spots_left n [] y few found is = refl
    spots_left n (x ∷ xs) y few found is =
        grind (arith, nat_tests, count-cons there x xs, all_stay xs, count-found there (at n) xs y, spots_left n xs y)

  -- If each key occurs at most once, two indices with the same key are equal.
  pub one_place : (xs : List A) (i j : ℕ) (d : A) → ((n : ℕ) → count_by (at n) xs ≤ 1) → i < length xs →
      j < length xs → key (get_or xs i d) ≡ key (get_or xs j d) → i ≡ j
  one_place [] i j d once a b same = absurd (omega (arith, a))
  one_place (x ∷ xs) zero zero d once a b same = refl
  one_place (x ∷ xs) zero (suc j) d once a b same =
      let q = at (key x) in
      grind (arith, nat_tests, once (key x), count-cons q x xs, counted_any q xs, list_any_at q xs j d)
  one_place (x ∷ xs) (suc i) zero d once a b same =
      let q = at (key x) in
      grind (arith, nat_tests, once (key x), count-cons q x xs, counted_any q xs, list_any_at q xs i d)
  one_place (x ∷ xs) (suc i) (suc j) d once a b same =
      ap suc (one_place xs i j d (λ n. omega (arith, once n, count-cons (at n) x xs)) (omega (arith, a))
      (omega (arith, b)) same)

-- If a context has fewer members than the limit, a seat is free.
use Rattle.mg_rooms.proofs.Common.{◌≡◌, ℕ, zero, suc, ◌+◌, ◌<◌, ◌≤◌, Bool, true, false, not, ◌&&◌, List, [], ◌∷◌, Option, Some, None, refl, arith, ◌==◌, nat_le, find, IsSome, length}
use Rattle.std.proofs.lemmas.Bool.Decides.{nat_tests}
use Rattle.std.proofs.lemmas.Bool.{and_parts, le-leb}
use Rattle.std.specs.List.{list_any, range_with_len, count_by, AllByRecursion}
use Rattle.mg_rooms.proofs.CountLemmas.{one, all_counted, count-cons, count-zero, count-weaker, counted_any}

one_more : (b : Bool) (s k : ℕ) → one (b && nat_le k s) ≡ one (b && (s == k)) + one (b && nat_le (k + 1) s)
one_more false s k = refl
one_more true s k = grind arith

module _ {A : Type 0} (among : A → Bool) (seat : A → ℕ) where
  -- The number of items of the context whose seat is k or higher.
  abbrev from : ℕ → List A → ℕ
  from k xs = count_by (λ x. among x && nat_le k (seat x)) xs

  abbrev at : ℕ → List A → ℕ
  at k xs = count_by (λ x. among x && (seat x == k)) xs

  from_next : (k : ℕ) (xs : List A) → from k xs ≡ at k xs + from (k + 1) xs
  from_next k [] = refl
  from_next k (x ∷ xs) =
      let some = count-cons (λ y. among y && nat_le k (seat y)) x xs in
      let here = count-cons (λ y. among y && (seat y == k)) x xs in
      grind (arith, from_next k xs, some, here, count-cons (λ y. among y && nat_le (k + 1) (seat y)) x xs)

  -- If the n seats from k on are all taken, at least n items have a seat of k or higher.
  all_taken : (k n : ℕ) (xs : List A) → find (λ s. not (list_any (λ x. among x && (seat x == s)) xs))
      (range_with_len k n) ≡ None → n ≤ from k xs
  all_taken k zero xs h = omega arith
  all_taken k (suc n) xs h =
      grind (arith, all_taken (k + 1) n xs, counted_any (λ x. among x && (seat x == k)) xs, from_next k xs)

  -- If fewer than n items are in the context, one of n seats is free.
  pub seat_left : (n : ℕ) (xs : List A) → count_by among xs < n →
      IsSome (find (λ s. not (list_any (λ x. among x && (seat x == s)) xs)) (range_with_len 0 n))
  seat_left n xs few =
      found (find (λ s. not (list_any (λ x. among x && (seat x == s)) xs)) (range_with_len 0 n)) refl
    where
      found : (o : Option ℕ) → find (λ s. not (list_any (λ x. among x && (seat x == s)) xs)) (range_with_len 0 n) ≡
          o → IsSome o
      found None h = let taken = all_taken 0 n xs h in
          let fewer = count-weaker (λ x. among x && nat_le 0 (seat x)) among xs
          (λ x e. (and_parts (among x) (nat_le 0 (seat x)) e).0) in absurd (omega arith)
      found (Some s) h = refl

  few_from : (k n size : ℕ) (xs : List A) → k + n ≡ size → AllByRecursion (λ x. seat x < size) xs →
      ((s : ℕ) → at s xs ≤ 1) → from k xs ≤ n
  few_from k zero size xs e all once =
      let none = count-zero (λ x. seat x < size) (λ x. among x && nat_le k (seat x)) xs all (λ x lt. past x lt) in
      omega arith
    where
      past : (x : A) → seat x < size → (among x && nat_le k (seat x)) ≡ false
      past x lt = grind arith
  few_from k (suc n) size xs e all once =
      let rest = few_from (k + 1) n size xs (omega arith) all once in
      let here = once k in omega (arith, from_next k xs)

-- If each item has a spot of its own, there are at most as many items as spots.
pub no_more : {A : Type 0} (spot : A → ℕ) (n : ℕ) (xs : List A) → AllByRecursion (λ x. spot x < n) xs →
    ((s : ℕ) → count_by (λ x. spot x == s) xs ≤ 1) → length xs ≤ n
no_more spot n xs all once =
    let few = few_from (λ _. true) spot 0 n n xs (omega arith) all once in
    let each = all_counted (λ x. true && nat_le 0 (spot x)) xs (λ x. le-leb 0 (spot x) (omega arith)) in omega arith

-- Lemmas on counting, finding and checking the items of a list that grows at its end or in which one item changes.
use Rattle.mg_rooms.proofs.Common.{◌≡◌, ℕ, zero, suc, ◌+◌, ◌<◌, ◌≤◌, length, get_or, Bool, true, false, cond, List, [], ◌∷◌, ◌++◌, Option, Some, None, refl, ap, arith, ◌==◌, find, option_to_list, option_and_then, IfSome, list_any, count_by, AllByRecursion, change}
use Rattle.std.proofs.lemmas.Bool.Decides.{nat_tests}
use Rattle.std.proofs.lemmas.List.Sums.{sum_by-cons, sum_by-append, sum_by_push}
use Rattle.mg_rooms.proofs.OrderLemmas.{KeepsKey}

-- The number 1 if the flag is true, and otherwise 0.
abbrev pub one : Bool → ℕ
one b = cond b 1 0

pub one-true : (b : Bool) → b ≡ true → one b ≡ 1
one-true b e = rw e refl

pub one-false : (b : Bool) → b ≡ false → one b ≡ 0
one-false b e = rw e refl

pub one-le : (b : Bool) → one b ≤ 1
one-le true = omega arith
one-le false = omega arith

module _ {A : Type 0} where
  pub count-cons : (p : A → Bool) (x : A) (xs : List A) → count_by p (x ∷ xs) ≡ one (p x) + count_by p xs
  count-cons p x xs = sum_by-cons (λ y. cond (p y) 1 0) x xs

  pub count-push : (p : A → Bool) (xs : List A) (x : A) → count_by p (xs ++ (x ∷ [])) ≡ count_by p xs + one (p x)
  count-push p xs x = sum_by_push (λ y. cond (p y) 1 0) xs x

  pub count-append : (p : A → Bool) (xs ys : List A) → count_by p (xs ++ ys) ≡ count_by p xs + count_by p ys
  count-append p xs ys = sum_by-append (λ y. cond (p y) 1 0) xs ys

  pub count-zero : (P : A → Type 0) (p : A → Bool) (xs : List A) → AllByRecursion P xs →
      ((x : A) → P x → p x ≡ false) → count_by p xs ≡ 0
  count-zero P p [] all h = refl
  count-zero P p (x ∷ xs) all h = grind (arith, count-zero P p xs all.1 h)

  pub count-none : (p : A → Bool) (xs : List A) → list_any p xs ≡ false → count_by p xs ≡ 0
  count-none p [] h = refl
  count-none p (x ∷ xs) h = grind (arith, count-none p xs)

  -- If each item that passes p also passes q, p counts at most as many items as q.
  pub count-weaker : (p q : A → Bool) (xs : List A) → ((x : A) → p x ≡ true → q x ≡ true) →
      count_by p xs ≤ count_by q xs
  count-weaker p q [] h = omega arith
  count-weaker p q (x ∷ xs) h =
      grind (arith, count-weaker p q xs h, count-cons p x xs, count-cons q x xs)

  pub count-found : (p q : A → Bool) (xs : List A) (x : A) → find q xs ≡ Some x → p x ≡ true → 1 ≤ count_by p xs
  count-found p q [] x h is = absurd (cc)
  count-found p q (y ∷ ys) x h is = grind (arith, count-cons p y ys, count-found p q ys x)

  pub counted_any : (p : A → Bool) (xs : List A) → list_any p xs ≡ true → 1 ≤ count_by p xs
  counted_any p [] h = absurd (cc)
  counted_any p (x ∷ xs) h = grind (arith, count-cons p x xs, counted_any p xs)

  pub all_counted : (p : A → Bool) (xs : List A) → ((x : A) → p x ≡ true) → count_by p xs ≡ length xs
  all_counted p [] h = refl
  all_counted p (x ∷ xs) h = grind (arith, count-cons p x xs, all_counted p xs)

  -- If an item of the list passes the test, the count is at least 1.
  count-at : (p : A → Bool) (xs : List A) (i : ℕ) (d : A) → i < length xs → p (get_or xs i d) ≡ true → 1 ≤ count_by p xs
  count-at p [] i d lt e = absurd (omega arith)
  count-at p (x ∷ xs) zero d lt e = let step = count-cons p x xs in let first = one-true (p x) e in omega arith
  count-at p (x ∷ xs) (suc i) d lt e = grind (arith, count-cons p x xs, count-at p xs i d)

  -- If the item at an index passes the test and no other item does, a search finds this item.
  pub find-at : (p : A → Bool) (xs : List A) (i : ℕ) (d : A) → i < length xs → p (get_or xs i d) ≡ true →
      count_by p xs ≤ 1 → find p xs ≡ Some (get_or xs i d)
  find-at p [] i d lt e one_only = absurd (omega arith)
  find-at p (x ∷ xs) zero d lt e one_only = rw e refl
  find-at p (x ∷ xs) (suc i) d lt e one_only =
      grind (arith, count-cons p x xs, count-at p xs i d, find-at p xs i d)

  -- If another test finds the only item that passes p, p finds the same item.
  pub find-found : (p q : A → Bool) (xs : List A) (x : A) → find q xs ≡ Some x → p x ≡ true → count_by p xs ≤ 1 →
      find p xs ≡ Some x
  find-found p q [] x found e one_only = absurd (cc found)
  find-found p q (y ∷ ys) x found e one_only =
      grind (arith, count-cons p y ys, count-found p q ys x, find-found p q ys x)

  pub find-none : (p : A → Bool) (xs : List A) → count_by p xs ≡ 0 → find p xs ≡ None
  find-none p [] h = refl
  find-none p (x ∷ xs) h = grind (arith, count-cons p x xs, find-none p xs)

  -- If two items that are found pass a test, and at most one item of the list passes it, the two are the same item.
  pub same_found : (p q r : A → Bool) (xs : List A) (x y : A) → find q xs ≡ Some x → find r xs ≡ Some y → p x ≡ true →
      p y ≡ true → count_by p xs ≤ 1 → x ≡ y
  same_found p q r [] x y fx fy px py few = absurd (cc)
  same_found p q r (z ∷ zs) x y fx fy px py few =
      grind (arith, count-cons p z zs, count-found p r zs y, count-found p q zs x, same_found p q r zs x y)

  pub find-push_some : (p : A → Bool) (xs : List A) (x y : A) → find p xs ≡ Some y → find p (xs ++ (x ∷ [])) ≡ Some y
  find-push_some p [] x y h = absurd (cc)
  find-push_some p (z ∷ zs) x y h = grind (arith, find-push_some p zs x y)

  pub find-push_none : (p : A → Bool) (xs : List A) (x : A) → find p xs ≡ None →
      find p (xs ++ (x ∷ [])) ≡ cond (p x) (Some x) None
  find-push_none p [] x h = refl
  find-push_none p (z ∷ zs) x h = grind (arith, find-push_none p zs x)

  pub find-push_other : (p : A → Bool) (xs : List A) (x : A) → p x ≡ false → find p (xs ++ (x ∷ [])) ≡ find p xs
  find-push_other p [] x h = rw h refl
  find-push_other p (z ∷ zs) x h = ap (cond (p z) (Some z)) (find-push_other p zs x h)

  pub all-push : (P : A → Type 0) (xs : List A) (x : A) → AllByRecursion P xs → P x → AllByRecursion P (xs ++ (x ∷ []))
  all-push P [] x all h = (h, tt)
  all-push P (y ∷ ys) x all h = (all.0, all-push P ys x all.1 h)

  pub all-map : (P Q : A → Type 0) (xs : List A) → ((x : A) → P x → Q x) → AllByRecursion P xs → AllByRecursion Q xs
  all-map P Q [] h all = tt
  all-map P Q (x ∷ xs) h all = (h x all.0, all-map P Q xs h all.1)

  pub all-found : (P : A → Type 0) (p : A → Bool) (xs : List A) (x : A) → AllByRecursion P xs → find p xs ≡ Some x → P x
  all-found P p [] x all h = absurd (cc)
  all-found P p (y ∷ ys) x all h = grind (arith, all-found P p ys x all.1)

  all-option : (P : A → Type 0) (o : Option A) (xs : List A) → IfSome o P → AllByRecursion P xs →
      AllByRecursion P (option_to_list o ++ xs)
  all-option P None xs h all = all
  all-option P (Some y) xs h all = (h, all)

module _ {A : Type 0} (key : A → ℕ) where
  pub all-change : (P : A → Type 0) (n : ℕ) (f : A → Option A) (xs : List A) →
      ((x : A) → find (λ y. key y == n) xs ≡ Some x → P x → IfSome (f x) P) → AllByRecursion P xs →
      AllByRecursion P (change key n f xs)
  all-change P n f [] is all = tt
  all-change P n f (x ∷ xs) is all = grind (arith, all-change P n f xs)

  pub count-change : (p : A → Bool) (n : ℕ) (f : A → Option A) (xs : List A) (old : A) →
      find (λ x. key x == n) xs ≡ Some old → count_by p (change key n f xs) + one (p old) ≡ count_by p xs +
      count_by p (option_to_list (f old))
  count-change p n f [] old h = absurd (cc)
  count-change p n f (x ∷ xs) old h =
      let parts = count-append p (option_to_list (f x)) xs in
      grind (arith, parts, count-cons p x xs, count-change p n f xs old, count-cons p x (change key n f xs))

  pub count-change_le : (p : A → Bool) (n : ℕ) (f : A → Option A) (xs : List A) →
      ((x : A) → count_by p (option_to_list (f x)) ≤ one (p x)) → count_by p (change key n f xs) ≤ count_by p xs
  count-change_le p n f [] fewer = omega arith
  count-change_le p n f (x ∷ xs) fewer =
      grind (arith, count-cons p x xs, count-cons p x (change key n f xs), count-change_le p n f xs)

  pub count-change_some : (p : A → Bool) (n : ℕ) (new : A) (xs : List A) (old : A) →
      find (λ x. key x == n) xs ≡ Some old → count_by p (change key n (λ _. Some new) xs) +
      one (p old) ≡ count_by p xs + one (p new)
  count-change_some p n new xs old h = grind (arith, count-change p n (λ _. Some new) xs old h)

  pub count-change_none : (p : A → Bool) (n : ℕ) (xs : List A) (old : A) → find (λ x. key x == n) xs ≡ Some old →
      count_by p (change key n (λ _. None) xs) + one (p old) ≡ count_by p xs
  count-change_none p n xs old h = grind (arith, count-change p n (λ _. None) xs old h)

  find-option_other : (p : A → Bool) (o : Option A) (xs : List A) → IfSome o (λ y. p y ≡ false) →
      find p (option_to_list o ++ xs) ≡ find p xs
  find-option_other p None xs h = refl
  find-option_other p (Some y) xs h = rw h refl

  other_key : (n d : ℕ) (x : A) (o : Option A) → (n == d) ≡ false → (key x == n) ≡ true →
      IfSome o (λ y. key y ≡ key x) → IfSome o (λ y. (key y == d) ≡ false)
  other_key n d x None ne e k = tt
  other_key n d x (Some y) ne e k = grind arith

  pub find-change_other : (n d : ℕ) (f : A → Option A) (xs : List A) → KeepsKey key n f → (n == d) ≡ false →
      find (λ x. key x == d) (change key n f xs) ≡ find (λ x. key x == d) xs
  find-change_other n d f [] keeps ne = refl
  find-change_other n d f (x ∷ xs) keeps ne =
      grind (arith, ap (cond (key x == d) (Some x)) (find-change_other n d f xs keeps ne))

  find-option_same : (n : ℕ) (x : A) (o : Option A) (xs : List A) → (key x == n) ≡ true →
      IfSome o (λ y. key y ≡ key x) → find (λ y. key y == n) xs ≡ None →
      find (λ y. key y == n) (option_to_list o ++ xs) ≡ o
  find-option_same n x None xs e k none = none
  find-option_same n x (Some y) xs e k none = let is : (key y == n) ≡ true = rw k e in rw is refl

  pub find-change_same : (n : ℕ) (f : A → Option A) (xs : List A) → KeepsKey key n f →
      count_by (λ x. key x == n) xs ≤ 1 → find (λ x. key x == n) (change key n f xs) ≡
      option_and_then f (find (λ x. key x == n) xs)
  find-change_same n f [] keeps few = refl
  find-change_same n f (x ∷ xs) keeps few =
      grind (arith, count-cons (λ y. key y == n) x xs, find-none (λ y. key y == n) xs, find-change_same n f xs keeps)

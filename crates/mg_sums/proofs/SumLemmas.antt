-- Sums over lists, and sums over the numbers below a bound.
use Rattle.std.proofs.Common.{◌≡◌, ◌≢◌, ℕ, zero, suc, ◌+◌, ◌*◌, ◌<◌, ◌≤◌, inl, inr, Bool, true, false, ◌||◌, ◌==◌, cond, Option, None, Some, ℤ, pos, ◌+ℤ◌, List, [], ◌∷◌, ◌++◌, map, length, get_or, take, refl, sym, ap, ◌∙◌, arith}
use Rattle.std.specs.Prelude.{All, AllPairs, filter, unsigned_abs}
use Rattle.std.specs.List.{range_with_len}
use Rattle.std.proofs.lemmas.Int.{ints}
use Rattle.std.proofs.lemmas.Bool.{cases_eq}
use Rattle.std.proofs.lemmas.Bool.Decides.{nat_tests}
use Rattle.std.proofs.lemmas.List.{take_more}
use Rattle.std.proofs.lemmas.List.Elements.{All-head, All-tail}
use Rattle.mg_sums.specs.Samples.{sum_of}
use Rattle.mg_sums.specs.Sums.{is_among, left_out_by}

pub sum_of-nil : {A : Type 0} (f : A → ℤ) → sum_of f [] ≡ pos 0
unfolding sum_of
sum_of-nil f = refl

pub sum_of-cons : {A : Type 0} (f : A → ℤ) (x : A) (xs : List A) → sum_of f (x ∷ xs) ≡ f x +ℤ sum_of f xs
unfolding sum_of
sum_of-cons f x xs = refl

pub sum_of-append : {A : Type 0} (f : A → ℤ) (xs ys : List A) → sum_of f (xs ++ ys) ≡ sum_of f xs +ℤ sum_of f ys
unfolding sum_of
sum_of-append f [] ys = omega (arith, ints)
sum_of-append f (x ∷ xs) ys = omega (arith, ints, sum_of-append f xs ys)

pub sum_of-more : {A : Type 0} (f : A → ℤ) (xs : List A) (k : ℕ) (d : A) → k < length xs →
    sum_of f (take (k + 1) xs) ≡ sum_of f (take k xs) +ℤ f (get_or xs k d)
sum_of-more f xs k d lt = ap (sum_of f) (take_more xs k d lt) ∙ sum_of-append f (take k xs) (get_or xs k d ∷ []) ∙
    omega (arith, ints, sum_of-cons f (get_or xs k d) [], sum_of-nil f)

pub sum_of-map : {A B : Type 0} (f : B → ℤ) (g : A → B) (xs : List A) → sum_of f (map g xs) ≡ sum_of (λ x. f (g x)) xs
unfolding sum_of
sum_of-map f g [] = refl
sum_of-map f g (x ∷ xs) = ap (λ n. f (g x) +ℤ n) (sum_of-map f g xs)

pub sum_of-same : {A : Type 0} (f g : A → ℤ) (xs : List A) → ((x : A) → f x ≡ g x) → sum_of f xs ≡ sum_of g xs
unfolding sum_of
sum_of-same f g [] h = refl
sum_of-same f g (x ∷ xs) h = omega (arith, ints, h x, sum_of-same f g xs h)

one_filtered : {A : Type 0} (b : Bool) (f : A → ℤ) (x : A) (xs : List A) (n : ℤ) → sum_of f xs ≡ n →
    sum_of f (cond b (x ∷ xs) xs) ≡ cond b (f x) (pos 0) +ℤ n
unfolding sum_of
one_filtered true f x xs n h = ap (λ m. f x +ℤ m) h
one_filtered false f x xs n h = omega (arith, ints, h)

-- The sum over the elements that pass a test is the sum over all elements, with the others counted as 0.
pub sum_of-filter : {A : Type 0} (p : A → Bool) (f : A → ℤ) (xs : List A) →
    sum_of f (filter p xs) ≡ sum_of (λ x. cond (p x) (f x) (pos 0)) xs
unfolding sum_of
sum_of-filter p f [] = refl
sum_of-filter p f (x ∷ xs) = one_filtered (p x) f x (filter p xs) (sum_of (λ y. cond (p y) (f y) (pos 0)) xs)
    (sum_of-filter p f xs)

-- The sum of g x + h x over a list is the sum of g plus the sum of h.
pub sum_of-plus : {A : Type 0} (f g h : A → ℤ) (xs : List A) → ((x : A) → f x ≡ g x +ℤ h x) →
    sum_of f xs ≡ sum_of g xs +ℤ sum_of h xs
unfolding sum_of
sum_of-plus f g h [] e = refl
sum_of-plus f g h (x ∷ xs) e = omega (arith, ints, e x, sum_of-plus f g h xs e)

pub sum_of-none : {A : Type 0} (f : A → ℤ) (xs : List A) → ((x : A) → f x ≡ pos 0) → sum_of f xs ≡ pos 0
unfolding sum_of
sum_of-none f [] h = refl
sum_of-none f (x ∷ xs) h = omega (arith, ints, h x, sum_of-none f xs h)

pub sum_of-near : {A : Type 0} (f : A → ℤ) (b : ℕ) (xs : List A) → ((x : A) → unsigned_abs (f x) ≤ b) →
    unsigned_abs (sum_of f xs) ≤ b * length xs
unfolding sum_of
sum_of-near f b [] h = omega (arith, ints)
sum_of-near f b (x ∷ xs) h = omega (arith, ints, h x, sum_of-near f b xs h)

-- By these lemmas, if two functions differ only at one number, their sums differ by the difference of their values
-- there.
same_above : (f g : ℕ → ℤ) (a n : ℕ) → ((k : ℕ) → a ≤ k → f k ≡ g k) →
    sum_of f (range_with_len a n) ≡ sum_of g (range_with_len a n)
unfolding sum_of
same_above f g a zero h = refl
same_above f g a (suc n) h = omega (arith, ints, h a (omega arith), same_above f g (a + 1) n (λ k l. h k (omega arith)))

changed_from : (f g : ℕ → ℤ) (row a n : ℕ) → a ≤ row → row < a + n → ((k : ℕ) → k ≢ row → f k ≡ g k) →
    sum_of f (range_with_len a n) +ℤ g row ≡ sum_of g (range_with_len a n) +ℤ f row
unfolding sum_of
changed_from f g row a zero l m h = absurd (omega arith)
changed_from f g row a (suc n) l m h = elim (cases_eq row a) [
  | inl here ↦
      let others : sum_of f (range_with_len (a + 1) n) ≡ sum_of g (range_with_len (a + 1) n) =
      same_above f g (a + 1) n (λ k p. h k (omega arith)) in
      let e : f row ≡ f a = ap f here in
      let d : g row ≡ g a = ap g here in
      omega (arith, ints, others, e, d)
  | inr other ↦
      let e : f a ≡ g a = h a (omega arith) in
      omega (arith, ints, e, changed_from f g row (a + 1) n (omega arith) (omega arith) h)
]

pub sum_of-changed : (f g : ℕ → ℤ) (row n : ℕ) → row < n → ((k : ℕ) → k ≢ row → f k ≡ g k) →
    sum_of f (range_with_len 0 n) +ℤ g row ≡ sum_of g (range_with_len 0 n) +ℤ f row
sum_of-changed f g changed n l h = changed_from f g changed 0 n (omega arith) (omega arith) h

-- These lemmas are about lists of different numbers below a bound, in any order. The sum over such a list is the sum
-- over the numbers below the bound that are in the list.
none_among : (x : ℕ) (xs : List ℕ) → All (λ r. x ≢ r) xs → is_among xs x ≡ false
none_among x [] h = refl
none_among x (r ∷ rs) h =
    let head : x ≢ r = All-head (λ (s : ℕ). x ≢ s) r rs h in
    let rest = none_among x rs (All-tail (λ (s : ℕ). x ≢ s) r rs h) in
    grind (arith, nat_tests)

head_apart : (x : ℕ) (xs : List ℕ) → AllPairs (λ a b. a ≢ b) (x ∷ xs) → All (λ r. x ≢ r) xs
head_apart x xs h = λ k d l. h 0 (suc k) d (omega arith) (omega arith)

tail_apart : (x : ℕ) (xs : List ℕ) → AllPairs (λ a b. a ≢ b) (x ∷ xs) → AllPairs (λ a b. a ≢ b) xs
tail_apart x xs h = λ i j d l m. h (suc i) (suc j) d (omega arith) (omega arith)

one_of : (f : ℕ → ℤ) (x k : ℕ) (rest : Bool) → k ≢ x → cond ((k == x) || rest) (f k) (pos 0) ≡ cond rest (f k) (pos 0)
one_of f x k rest ne = ap (λ b. cond (b || rest) (f k) (pos 0))
    (let no : (k == x) ≡ false = grind (arith, nat_tests) in no)

the_one : (f : ℕ → ℤ) (x : ℕ) (rest : Bool) → cond ((x == x) || rest) (f x) (pos 0) ≡ f x
the_one f x rest = ap (λ b. cond (b || rest) (f x) (pos 0))
    (let yes : (x == x) ≡ true = grind (arith, nat_tests) in yes)

pub sum_of-among : (f : ℕ → ℤ) (n : ℕ) (rows : List ℕ) → All (λ r. r < n) rows → AllPairs (λ a b. a ≢ b) rows →
    sum_of f rows ≡ sum_of (λ k. cond (is_among rows k) (f k) (pos 0)) (range_with_len 0 n)
sum_of-among f n [] below apart = sum_of-nil f ∙ sym (sum_of-none (λ k. pos 0) (range_with_len 0 n) (λ k. refl))
sum_of-among f n (x ∷ xs) below apart =
    let rest = sum_of-among f n xs (All-tail (λ (r : ℕ). r < n) x xs below) (tail_apart x xs apart) in
    let out : is_among xs x ≡ false = none_among x xs (head_apart x xs apart) in
    let step = sum_of-changed (λ k. cond (is_among (x ∷ xs) k) (f k) (pos 0))
    (λ k. cond (is_among xs k) (f k) (pos 0)) x n (All-head (λ (r : ℕ). r < n) x xs below)
    (λ k ne. one_of f x k (is_among xs k) ne) in
    let here = the_one f x (is_among xs x) in
    let gone : cond (is_among xs x) (f x) (pos 0) ≡ pos 0 = ap (λ b. cond b (f x) (pos 0)) out in
    omega (arith, ints, sum_of-cons f x xs, rest, step, here, gone)

-- By these lemmas, the sum of the rows that are left out is the base row's value plus the sum of the rows in `minus`.
-- Without a base row, only the rows in `minus` count.
pub left_out-one : (f : ℕ → ℤ) (row : ℕ) → sum_of f (left_out_by (Some row) []) ≡ f row
left_out-one f row = omega (arith, ints, sum_of-cons f row [], sum_of-nil f)

pub left_out-more : (f : ℕ → ℤ) (base : Option ℕ) (minus : List ℕ) (k : ℕ) → k < length minus →
    sum_of f (left_out_by base (take (k + 1) minus)) ≡
    sum_of f (left_out_by base (take k minus)) +ℤ f (get_or minus k 0)
left_out-more f None minus k l = sum_of-more f minus k 0 l
left_out-more f (Some base) minus k l =
    omega (
      arith,
      ints,
      sum_of-cons f base (take (k + 1) minus),
      sum_of-cons f base (take k minus),
      sum_of-more f minus k 0 l,
    )

-- Functions that agree on each element of a list have the same sum over the list.
pub sum_of-agree : {A : Type 0} (f g : A → ℤ) (xs : List A) → All (λ x. f x ≡ g x) xs → sum_of f xs ≡ sum_of g xs
unfolding sum_of
sum_of-agree f g [] h = refl
sum_of-agree {A} f g (x ∷ xs) h =
    let head : f x ≡ g x = All-head (λ (y : A). f y ≡ g y) x xs h in
    omega (arith, ints, head, sum_of-agree f g xs (All-tail (λ (y : A). f y ≡ g y) x xs h))

pub sum_of-ones : {A : Type 0} (xs : List A) → sum_of (λ _. pos 1) xs ≡ pos (length xs)
unfolding sum_of
sum_of-ones [] = refl
sum_of-ones (x ∷ xs) = omega (arith, ints, sum_of-ones xs)

-- Sums over lists, and lists given element by element.
use Rattle.mg_engine.proofs.Common.{◌≡◌, ℕ, ◌<◌, List, [], ◌∷◌, length, get_or, map, refl, sym, ◌∙◌, arith, range_with_len, get_or_default, same_lists, get_or-map-range_with_len, length-map-range_with_len, All, All-head, All-tail, sum_by, sum_by-cons}

pub sum_by-map : {A B : Type 0} (f : B → ℕ) (g : A → B) (xs : List A) → sum_by f (map g xs) ≡ sum_by (λ x. f (g x)) xs
sum_by-map f g [] = refl
sum_by-map f g (x ∷ xs) =
    omega (arith, sum_by-cons f (g x) (map g xs), sum_by-map f g xs, sum_by-cons (λ y. f (g y)) x xs)

-- Functions that agree on each element of a list have the same sum over the list.
pub sum_by-agree : {A : Type 0} (f g : A → ℕ) (xs : List A) → All (λ x. f x ≡ g x) xs → sum_by f xs ≡ sum_by g xs
sum_by-agree f g [] h = refl
sum_by-agree f g (x ∷ xs) h =
    let rest = sum_by-agree f g xs (All-tail (λ y. f y ≡ g y) x xs h) in
    omega (arith, sum_by-cons f x xs, sum_by-cons g x xs, All-head (λ y. f y ≡ g y) x xs h, rest)

-- A list of length n is determined by its elements.
pub list_is : {A : Type 0} (f : ℕ → A) (xs : List A) (n : ℕ) (d : A) → length xs ≡ n →
    ((i : ℕ) → i < n → get_or xs i d ≡ f i) → xs ≡ map f (range_with_len 0 n)
list_is f xs n d len at =
    let counted = length-map-range_with_len f 0 n in
    same_lists xs (map f (range_with_len 0 n)) (len ∙ sym counted)
    (λ k e lt. let below : k < n = omega (arith, lt, len) in get_or_default xs k e d lt ∙ at k below ∙
    sym (get_or-map-range_with_len f 0 n k k e below (omega arith)))

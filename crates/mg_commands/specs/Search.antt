-- The first result of a search through a list.
use Rattle.std.specs.Prelude.{List, [], ◌∷◌, ◌++◌, Option, None}
use Rattle.std.specs.Option.{option_or}

-- The first result for any element of a list.
unfoldable pub first_of : {X A : Type 0} → (X → Option A) → List X → Option A
first_of f [] = None
first_of f (x ∷ xs) = option_or (f x) (first_of f xs)

-- The first result for an element together with the elements before it. The search starts after the elements `before`.
unfoldable pub first_after : {X A : Type 0} → (List X → X → Option A) → List X → List X → Option A
first_after f before [] = None
first_after f before (x ∷ xs) = option_or (f before x) (first_after f (before ++ x ∷ []) xs)

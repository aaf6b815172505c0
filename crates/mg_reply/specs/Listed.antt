-- Lists of parts.
use Rattle.std.specs.Prelude.{ℕ, List, [], ◌∷◌, ◌++◌, codes}

-- The parts with a mark before each part: `mark` before the first and a comma before the others.
unfoldable pub listed : List ℕ → List (List ℕ) → List ℕ
listed mark [] = []
listed mark (x ∷ xs) = mark ++ (x ++ listed (codes ",") xs)

-- The parts in braces with commas between them, or nothing if there are no parts.
abbrev pub grouped : List (List ℕ) → List ℕ
grouped [] = []
grouped (x ∷ xs) = listed (codes "{") (x ∷ xs) ++ codes "}"

-- The marks of a list that is written part by part.
use Rattle.std.specs.Prelude.{ℕ, Bool, true, false, List, [], ◌∷◌, codes, if◌then◌else◌}

-- Whether a list has no part.
abbrev pub has_no_part : List (List ℕ) → Bool
has_no_part [] = true
has_no_part (x ∷ xs) = false

-- The mark before the next part of a list.
abbrev pub mark_of : List ℕ → Bool → List ℕ
mark_of opening is_first = if is_first then opening else codes ","

-- The closing brace of a list, unless the list is empty.
abbrev pub closing : Bool → List ℕ
closing true = []
closing false = codes "}"

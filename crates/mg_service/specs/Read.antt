-- The values of a list of strings.
use Rattle.std.specs.Prelude.{ℕ, List, [], ◌∷◌, Result, Ok}
use Rattle.mg_words.specs.ResultSteps.{◌>>=◌}

-- The value of each string, in order, or the fault of the first string that has no value.
abbrev pub all_read : {A E : Type 0} → (List ℕ → Result A E) → List (List ℕ) → Result (List A) E
all_read read [] = Ok []
all_read read (text ∷ texts) = do
  one ← read text
  others ← all_read read texts
  Ok (one ∷ others)

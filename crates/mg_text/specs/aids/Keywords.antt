-- Looking up a keyword by its first letter.
use Rattle.std.specs.Prelude.{ℕ, Bool, false, ◌||◌, ◌==◌, List, [], ◌∷◌, filter}
use Rattle.std.specs.Char.{to_ascii_lowercase}
use Rattle.mg_text.specs.declared.keyword.Keyword.{Keyword}
use Rattle.mg_text.specs.Keyword.{forms_of, keywords}

-- Whether a form of a keyword starts with this lower-case letter.
abbrev pub begins : ℕ → List ℕ → Bool
begins letter [] = false
begins letter (b ∷ bs) = letter == to_ascii_lowercase b

abbrev pub can_begin : ℕ → Keyword → Bool
can_begin letter keyword =
    begins letter (forms_of keyword).0 || begins letter (forms_of keyword).1

-- The keywords that have a form starting with this letter.
unfoldable pub words_by : ℕ → List Keyword
words_by letter = filter (can_begin letter) keywords

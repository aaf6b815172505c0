-- Several journals that follow one another, read as one script.
use Rattle.std.specs.Prelude.{ℕ, Bool, true, ◌&&◌, List, [], ◌∷◌, ◌++◌, codes, flat_map, if◌then◌else◌, nat_eq}
use Rattle.std.specs.Io.BufRead.{drop_through, take_through}
use Rattle.std.specs.List.{starts_with}
use Rattle.std.specs.Prelude.{bytes_eq}
use Rattle.mg_chain.specs.Seals.{last_part, seal_end}

-- The text from its first line that says which text it follows. The first line of the text isn't such a line.
unfoldable pub from_follows : List ℕ → List ℕ
from_follows [] = []
from_follows (b ∷ bs) = if starts_with nat_eq (b ∷ bs) (codes "\n# follows ") then bs else from_follows bs

-- What a text says of the time after the text that it follows: the lines behind its line `# follows`.
abbrev pub behind : List ℕ → List ℕ
behind text = drop_through 10 (from_follows text)

-- Whether a text follows the one before it: its line `# follows` has that text's hash, and both have the same title.
abbrev pub follows : (before text : List ℕ) → Bool
follows before text =
    bytes_eq (take_through 10 (from_follows text)) (codes "# follows " ++ seal_end (last_part before))
    && bytes_eq (take_through 10 text) (take_through 10 before)

-- Whether each text follows the one before it.
abbrev pub are_following : List (List ℕ) → Bool
are_following [] = true
are_following (text ∷ []) = true
are_following (before ∷ text ∷ later) = follows before text && are_following (text ∷ later)

-- The script of texts that follow one another, oldest first.
abbrev pub joined : List (List ℕ) → List ℕ
joined [] = []
joined (text ∷ later) = text ++ flat_map behind later

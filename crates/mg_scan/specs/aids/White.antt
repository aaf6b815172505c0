-- White space between tokens (RFC 3525, Annex B.2: LWSP, with its comments).
use Rattle.std.specs.Prelude.{◌≡◌, ℕ, Bool, true, false, List, [], ◌∷◌}
use Rattle.mg_words.specs.LineEnd.{is_line_end}
use Rattle.mg_scan.specs.Tokens.{is_blank}

-- Blanks and comments, one after another. A comment extends from a semicolon to the end of its line
-- or of the text. White space may start inside a comment.
pub data IsWhite : Bool → List ℕ → Type 0 where
  nothing : (inside : Bool) → IsWhite inside []
  blank : (b : ℕ) (bs : List ℕ) → is_blank b ≡ true → IsWhite false bs → IsWhite false (b ∷ bs)
  semicolon : (bs : List ℕ) → IsWhite true bs → IsWhite false (59 ∷ bs)
  comment : (b : ℕ) (bs : List ℕ) → is_line_end b ≡ false → IsWhite true bs → IsWhite true (b ∷ bs)
  line_end : (b : ℕ) (bs : List ℕ) → is_line_end b ≡ true → IsWhite false bs → IsWhite true (b ∷ bs)

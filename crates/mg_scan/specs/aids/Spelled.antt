-- The spelling of tokens.
use Rattle.std.specs.Prelude.{ℕ, List, [], ◌∷◌, ◌++◌}
use Rattle.mg_scan.specs.declared.kind.TokenKind.{TokenKind}
use Rattle.mg_scan.specs.declared.kind.TokenKind.TheVariants.{Quoted, Octets}

-- The spelling of a token in its source.
abbrev pub spelled : TokenKind → List ℕ → List ℕ
spelled Quoted text = 34 ∷ (text ++ 34 ∷ [])
spelled Octets text = 123 ∷ (text ++ 125 ∷ [])
spelled _ text = text

-- The building blocks of productions: sequences and alternatives.
use Rattle.std.specs.Prelude.{◌≡◌, ◌⊎◌, List}
use Rattle.mg_scan.specs.declared.token.Token.{Token}

-- Relates a list of tokens to the tokens that remain after a part is parsed from its front.
abbrev pub Production : Type 1
Production = List Token → List Token → Type 0

-- The first part followed by the second.
infixr 30 ◌▹◌
abbrev pub ◌▹◌ : Production → Production → Production
(P ▹ Q) ts rest = (between : List Token) × P ts between × Q between rest

-- The first part or the second.
infixr 20 ◌or◌
abbrev pub ◌or◌ : Production → Production → Production
(P or Q) ts rest = P ts rest ⊎ Q ts rest

-- A part without tokens.
abbrev pub IsNothing : Production
IsNothing ts rest = ts ≡ rest

-- A part with any value.
abbrev pub IsAny : {X : Type 0} → (X → Production) → Production
IsAny {X} P ts rest = (x : X) × P x ts rest

-- The tokens after a mark.
use Rattle.std.specs.Prelude.{Bool, true, false, List, [], ◌∷◌, Option, Some, None, if◌then◌else◌}
use Rattle.mg_scan.specs.declared.kind.TokenKind.{TokenKind}
use Rattle.mg_scan.specs.declared.kind.TokenKind.TheVariants.{Word, Open, Close, Comma, Equals}
use Rattle.mg_scan.specs.declared.kind.TokenKind.TheVariants.{Quoted, Octets}
use Rattle.mg_scan.specs.declared.token.Token.{Token}

abbrev pub is_kind : TokenKind → TokenKind → Bool
is_kind Word Word = true
is_kind Open Open = true
is_kind Close Close = true
is_kind Comma Comma = true
is_kind Equals Equals = true
is_kind Quoted Quoted = true
is_kind Octets Octets = true
is_kind _ _ = false

unfoldable pub after_mark : TokenKind → List Token → Option (List Token)
after_mark kind [] = None
after_mark kind (t ∷ ts) = if is_kind t.kind kind then Some ts else None

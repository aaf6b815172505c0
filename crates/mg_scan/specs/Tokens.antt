-- The tokens of a source (RFC 3525, Annex B.2). This gateway's profile decides which bytes are
-- words and which are white space.
use Rattle.std.specs.Prelude.{ℕ, ◌+◌, Bool, true, false, ◌||◌, ◌&&◌, ◌==◌, not, List, [], ◌∷◌}
use Rattle.std.specs.Prelude.{take, drop, Option, Some, None, Result, Ok, Err, codes, if◌then◌else◌}
use Rattle.std.specs.List.{prefix_len, position_or_len, list_any}
use Rattle.std.specs.Option.{option_map}
use Rattle.std.specs.Str.{str_eq_ignore_ascii_case}
use Rattle.mg_words.specs.LineEnd.{is_line_end}
use Rattle.mg_words.specs.WordByte.{is_word_byte}
use Rattle.mg_scan.specs.declared.kind.TokenKind.{TokenKind}
use Rattle.mg_scan.specs.declared.kind.TokenKind.TheVariants.{Word, Open, Close, Comma, Equals}
use Rattle.mg_scan.specs.declared.kind.TokenKind.TheVariants.{Quoted, Octets}
use Rattle.mg_scan.specs.declared.fault.ScanFault.{ScanFault}
use Rattle.mg_scan.specs.declared.fault.ScanFault.TheVariants.{BadByte, OpenQuote, OpenOctets}

-- Whether a byte is a space, a tab or part of a line end.
abbrev pub is_blank : ℕ → Bool
is_blank b = b == 32 || b == 9 || is_line_end b

-- Whether a byte ends quoted text. A quotation mark closes the text; part of a line end is a fault.
abbrev pub is_quote_end : ℕ → Bool
is_quote_end b = b == 34 || b == 13 || b == 10

-- The bytes after the white space at the front. The flag says whether the list starts inside a comment.
unfoldable pub after_white : Bool → List ℕ → List ℕ
after_white inside [] = []
after_white inside (b ∷ bs) =
    if is_line_end b then after_white false bs
    else (if inside then after_white true bs
    else (if is_blank b then after_white false bs
    else (if b == 59 then after_white true bs
    else b ∷ bs)))

-- The kind and the text of a token.
pub record Piece : Type 0 where
  pub kind : TokenKind
  pub text : List ℕ

-- A token, and the bytes after the token.
pub record TokenAndRest : Type 0 where
  pub piece : Piece
  pub rest : List ℕ

abbrev pub token_and_rest : TokenKind → List ℕ → List ℕ → Option (Result TokenAndRest ScanFault)
token_and_rest kind text rest =
    Some (Ok (record { piece = record { kind = kind; text = text }; rest = rest }))

-- The quoted text and the bytes after it, or a fault if no quotation mark closes the text.
abbrev pub closed_at : List ℕ → List ℕ → Option (Result TokenAndRest ScanFault)
closed_at text [] = Some (Err OpenQuote)
closed_at text (b ∷ bs) = if b == 34 then token_and_rest Quoted text bs else Some (Err OpenQuote)

-- The quoted text after an opening quotation mark, or a fault if no quotation mark closes the text.
abbrev pub quoted_at : List ℕ → Option (Result TokenAndRest ScanFault)
quoted_at bs = let n = position_or_len is_quote_end bs in closed_at (take n bs) (drop n bs)

-- The token that starts at the first byte, or a fault. It is `None` if there are no bytes.
unfoldable pub token_at : List ℕ → Option (Result TokenAndRest ScanFault)
token_at [] = None
token_at (b ∷ bs) =
    if is_word_byte b then (let n = prefix_len is_word_byte (b ∷ bs) in token_and_rest Word
    (take n (b ∷ bs)) (drop n (b ∷ bs)))
    else (if b == 123 then token_and_rest Open (b ∷ []) bs
    else (if b == 125 then token_and_rest Close (b ∷ []) bs
    else (if b == 44 then token_and_rest Comma (b ∷ []) bs
    else (if b == 61 then token_and_rest Equals (b ∷ []) bs
    else (if b == 34 then quoted_at bs
    else Some (Err BadByte))))))

-- The number of bytes before the brace that closes a session description, which is the first closing brace without a
-- backslash in front of it. The flag says whether the byte before the list is a backslash.
unfoldable pub content_len : Bool → List ℕ → Option ℕ
content_len escaped [] = None
content_len escaped (b ∷ bs) =
    if b == 125 && not escaped then Some 0 else option_map (λ n. 1 + n) (content_len (b == 92) bs)

-- Whether any byte is 0.
abbrev pub has_null : List ℕ → Bool
has_null bs = list_any (λ b. b == 0) bs

-- The session description of this length, or a fault. It is a fault if no brace closes the description (`None`) or if a
-- byte is 0.
abbrev pub octets_closed : List ℕ → Option ℕ → Option (Result TokenAndRest ScanFault)
octets_closed bs None = if has_null bs then Some (Err BadByte) else Some (Err OpenOctets)
octets_closed bs (Some n) =
    if has_null (take n bs) then Some (Err BadByte)
    else token_and_rest Octets (take n bs) (drop (n + 1) bs)

-- The session description after an opening brace, or a fault.
abbrev pub octets_at : List ℕ → Option (Result TokenAndRest ScanFault)
octets_at bs = octets_closed bs (content_len false bs)

-- The token that starts at the first byte, or a fault. It is `None` if there are no bytes. The flag says whether the
-- previous token announces a session description.
unfoldable pub token_after : Bool → List ℕ → Option (Result TokenAndRest ScanFault)
token_after named [] = None
token_after named (b ∷ bs) = if named && b == 123 then octets_at bs else token_at (b ∷ bs)

-- Whether the token announces a session description.
unfoldable pub names_octets : TokenKind → List ℕ → Bool
names_octets Word text =
    str_eq_ignore_ascii_case text (codes "Local") || str_eq_ignore_ascii_case text (codes "L")
    || str_eq_ignore_ascii_case text (codes "Remote") || str_eq_ignore_ascii_case text (codes "R")
names_octets _ text = false

-- The first token after white space, or a fault. It is `None` if the bytes are only white space. The flag says whether
-- the previous token announces a session description.
abbrev pub first_token : Bool → List ℕ → Option (Result TokenAndRest ScanFault)
first_token named bytes = token_after named (after_white false bytes)

-- The number of bytes after a token's text that close the token.
abbrev pub closing_len : TokenKind → ℕ
closing_len Quoted = 1
closing_len Octets = 1
closing_len _ = 0

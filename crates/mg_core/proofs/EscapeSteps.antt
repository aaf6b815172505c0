-- The loop that parses text with escapes.
use Rattle.std.proofs.Common.{◌≡◌, ℕ, ◌+◌, ◌<◌, ◌≤◌, ◌≢◌, true, false, List, [], ◌∷◌, ◌++◌, length, get_or, drop, Option, Some, None, refl, ap, append_assoc}
use Rattle.std.proofs.lemmas.List.{drop_more, drop_all, append-nil}
use Rattle.std.proofs.lemmas.Bool.{eq-eqb, ne_eqb}
use Rattle.std.specs.Option.{option_map}
use Rattle.mg_core.specs.Script.{is_plain, escaped_byte, unescaped}

-- The bytes parsed so far, followed by the bytes of the rest of the text.
abbrev pub in_front : List ℕ → Option (List ℕ) → Option (List ℕ)
in_front bytes o = option_map (λ rest. bytes ++ rest) o

in_front-more : (bytes : List ℕ) (b : ℕ) (o : Option (List ℕ)) →
    in_front (bytes ++ b ∷ []) o ≡ in_front bytes (option_map (λ rest. b ∷ rest) o)
in_front-more bytes b None = refl
in_front-more bytes b (Some rest) = ap (λ (l : List ℕ). Some l) (append_assoc bytes (b ∷ []) rest)

-- The next five lemmas are the cases for the next byte. The byte follows a backslash or, if it doesn't, is a backslash,
-- a plain byte or any other byte.
pub behind_backslash : (bytes text : List ℕ) (i byte : ℕ) → i < length text →
    escaped_byte (get_or text i 0) ≡ Some byte →
    in_front (bytes ++ byte ∷ []) (unescaped false (drop (i + 1) text)) ≡ in_front bytes (unescaped true (drop i text))
unfolding unescaped
behind_backslash bytes text i byte lt e = rw (drop_more text i 0 lt, e)
    (in_front-more bytes byte (unescaped false (drop (i + 1) text)))

pub bad_escape : (bytes text : List ℕ) (i : ℕ) → i < length text → escaped_byte (get_or text i 0) ≡ None →
    in_front bytes (unescaped true (drop i text)) ≡ None
unfolding unescaped
bad_escape bytes text i lt e = rw (drop_more text i 0 lt, e) refl

pub a_backslash : (bytes text : List ℕ) (i : ℕ) → i < length text → get_or text i 0 ≡ 92 →
    in_front bytes (unescaped true (drop (i + 1) text)) ≡ in_front bytes (unescaped false (drop i text))
unfolding unescaped
a_backslash bytes text i lt e = rw (drop_more text i 0 lt, eq-eqb _ 92 e) refl

pub a_plain : (bytes text : List ℕ) (i : ℕ) → i < length text → get_or text i 0 ≢ 92 →
    is_plain (get_or text i 0) ≡ true → in_front (bytes ++ get_or text i 0 ∷ []) (unescaped false (drop (i + 1) text))
    ≡ in_front bytes (unescaped false (drop i text))
unfolding unescaped
a_plain bytes text i lt ne e = rw (drop_more text i 0 lt, ne_eqb _ 92 ne, e)
    (in_front-more bytes (get_or text i 0) (unescaped false (drop (i + 1) text)))

pub no_plain : (bytes text : List ℕ) (i : ℕ) → i < length text → get_or text i 0 ≢ 92 →
    is_plain (get_or text i 0) ≡ false → in_front bytes (unescaped false (drop i text)) ≡ None
unfolding unescaped
no_plain bytes text i lt ne e = rw (drop_more text i 0 lt, ne_eqb _ 92 ne, e) refl

pub ends_well : (bytes text : List ℕ) (i : ℕ) → length text ≤ i →
    in_front bytes (unescaped false (drop i text)) ≡ Some bytes
unfolding unescaped
ends_well bytes text i le = rw (drop_all i text le) (ap (λ (l : List ℕ). Some l) (append-nil bytes))

pub ends_escaped : (bytes text : List ℕ) (i : ℕ) → length text ≤ i →
    in_front bytes (unescaped true (drop i text)) ≡ None
unfolding unescaped
ends_escaped bytes text i le = rw (drop_all i text le) refl

pub in_front-nothing : (o : Option (List ℕ)) → in_front [] o ≡ o
in_front-nothing None = refl
in_front-nothing (Some rest) = refl

pub ruleset steps = (
  behind_backslash,
  bad_escape,
  a_backslash,
  a_plain,
  no_plain,
  ends_well,
  ends_escaped,
  in_front-nothing,
)

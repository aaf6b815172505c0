-- IPv4 addresses in dotted decimal (RFC 3525, Annex B.2, IPv4address).
use Rattle.std.specs.Prelude.{ℕ, List, [], ◌∷◌, ◌++◌, Option, Some, codes, decimal, slice_index}
use Rattle.mg_words.specs.OptionSteps.{◌>>=◌}
use Rattle.mg_words.specs.Cut.{cut}
use Rattle.mg_words.specs.Numbers.{decimal_of}

-- The four numbers of an address: four parts separated by dots, each of one to three digits and at most 255.
unfoldable pub address_of : List ℕ → Option (List ℕ)
address_of text = do
  first ← cut 46 text
  second ← cut 46 first.1
  third ← cut 46 second.1
  a ← decimal_of 3 255 first.0
  b ← decimal_of 3 255 second.0
  c ← decimal_of 3 255 third.0
  d ← decimal_of 3 255 third.1
  Some (a ∷ b ∷ c ∷ d ∷ [])

-- The text of an address in dotted decimal, without leading zeros.
abbrev pub address_text : List ℕ → List ℕ
address_text address =
    decimal (slice_index address 0) ++ (codes "." ++ (decimal (slice_index address 1) ++ (codes "."
    ++ (decimal (slice_index address 2) ++ (codes "." ++ decimal (slice_index address 3))))))

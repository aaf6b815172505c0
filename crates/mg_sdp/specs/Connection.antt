-- Connection lines (RFC 4566, section 5.7) for IPv4.
use Rattle.std.specs.Prelude.{ℕ, ◌&&◌, List, [], ◌∷◌, Option, None, codes, if◌then◌else◌}
use Rattle.std.specs.Str.{str_eq_ignore_ascii_case}
use Rattle.mg_words.specs.Address.{address_of}
use Rattle.mg_sdp.specs.Media.{requested_in_field}

-- The connection line: "IN" "IP4" address, ignoring case.
unfoldable pub connection_in : List (List ℕ) → Option (Option (List ℕ))
connection_in (network ∷ kind ∷ address ∷ []) =
    if str_eq_ignore_ascii_case network (codes "IN") && str_eq_ignore_ascii_case kind (codes "IP4")
    then requested_in_field address_of address else None
connection_in _ = None

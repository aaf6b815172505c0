-- The sender of a message (RFC 3525, Annex B.2, mId): a domain address, a domain name or a device
-- name.
use Rattle.std.specs.Prelude.{ℕ, Bool, true, false, ◌&&◌, ◌||◌, ◌==◌, not, nat_le, List}
use Rattle.std.specs.Prelude.{[], ◌∷◌, length, Option, is_some, if◌then◌else◌}
use Rattle.std.specs.Option.{option_map_or}
use Rattle.std.specs.List.{list_all}
use Rattle.std.specs.Char.{is_ascii_alphanumeric}
use Rattle.mg_words.specs.Limits.{name_limit}
use Rattle.mg_words.specs.Numbers.{port_of}
use Rattle.mg_words.specs.Address.{address_of}
use Rattle.mg_words.specs.Cut.{cut}

-- Whether a byte is a letter, a digit, - or a dot.
abbrev pub is_domain_byte : ℕ → Bool
is_domain_byte b = is_ascii_alphanumeric b || b == 45 || b == 46

abbrev pub is_domain : List ℕ → Bool
is_domain text =
    not (length text == 0) && nat_le (length text) name_limit && list_all is_domain_byte text

abbrev pub is_address : List ℕ → Bool
is_address text = is_some (address_of text)

-- Whether text is empty, or is a colon and a port.
abbrev pub is_port_part : List ℕ → Bool
is_port_part [] = true
is_port_part (b ∷ port) = if b == 58 then is_some (port_of port) else false

-- Whether the part before the closing mark passes the test, and the part after the mark is empty or a port.
abbrev pub is_host : (List ℕ → Bool) → Option (List ℕ × List ℕ) → Bool
is_host test parts = option_map_or (λ p. test p.0 && is_port_part p.1) parts false

-- Whether a word names a sender: [address] or <domain name>, each with an optional port, or a device name of 1 to 64
-- bytes.
abbrev pub is_sender : List ℕ → Bool
is_sender [] = false
is_sender (b ∷ rest) =
    if b == 91 then is_host is_address (cut 93 rest)
    else (if b == 60 then is_host is_domain (cut 62 rest)
    else nat_le (length (b ∷ rest)) name_limit)

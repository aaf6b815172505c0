-- Decimal numbers of ASCII digits (RFC 3525, Annex B.2, UINT16 and UINT32). Leading zeros are
-- allowed.
use Rattle.std.specs.Prelude.{ℕ, ◌-◌, ◌==◌, ◌&&◌, not, nat_le, Bool, List, length, map, Option}
use Rattle.std.specs.Prelude.{Some, None, if◌then◌else◌}
use Rattle.std.specs.Str.{all_ascii_digits}
use Rattle.std.specs.Int.Digits.{number_from_digits}

-- The value of a list of digits.
abbrev pub value_of_digits : List ℕ → ℕ
value_of_digits text = number_from_digits 10 (map (λ c. c - 48) text)

-- Whether a string consists of one to `most` digits.
abbrev pub are_digits : ℕ → List ℕ → Bool
are_digits most text = not (length text == 0) && nat_le (length text) most && all_ascii_digits text

-- The value of a string of one to `most` digits, if the value is at most the limit.
abbrev pub decimal_of : ℕ → ℕ → List ℕ → Option ℕ
decimal_of most limit text =
    if are_digits most text && nat_le (value_of_digits text) limit
    then Some (value_of_digits text) else None

-- A number of one to ten digits that fits in 32 bits.
abbrev pub number_of : List ℕ → Option ℕ
number_of text = decimal_of 10 4294967295 text

-- A number of one to five digits that fits in 16 bits.
abbrev pub uint16_of : List ℕ → Option ℕ
uint16_of text = decimal_of 5 65535 text

-- A port, which is a 16-bit number.
abbrev pub port_of : List ℕ → Option ℕ
port_of text = uint16_of text

-- A version of the protocol, which has one or two digits.
abbrev pub version_in_digits : List ℕ → Option ℕ
version_in_digits text = decimal_of 2 99 text

-- The names of terminations. Each line of a file of names gives a name to a key.
use Rattle.std.specs.Prelude.{ℕ, ◌==◌, ◌&&◌, not, Bool, nat_le, nat_lt, List, [], length, filter, find, map}
use Rattle.std.specs.Prelude.{Option, Some, None, if◌then◌else◌}
use Rattle.std.specs.List.{list_all}
use Rattle.std.specs.Option.{option_map_or}
use Rattle.std.specs.Str.{bytes_eq}
use Rattle.mg_words.specs.declared.peer.Peer.{Peer}
use Rattle.mg_heard.specs.declared.named.Named.{Named}
use Rattle.mg_heard.specs.declared.party_name.PartyName.{PartyName}
use Rattle.mg_heard.specs.Query.{is_named}

-- Whether a byte can be part of a name: any byte except ASCII control characters, `"` and `\`.
abbrev pub is_plain : ℕ → Bool
is_plain b = nat_le 32 b && (not (b == 127) && (not (b == 34) && not (b == 92)))

-- `text`, or `None` if it is not a name. A name has 1 to 64 bytes, and each byte can be part of a name.
abbrev pub name_in : List ℕ → Option (List ℕ)
name_in text =
    if length text == 0 then None
    else (if nat_lt 64 (length text) then None
    else (if list_all is_plain text then Some text else None))

-- The name of a termination, from the first line whose key applies to it. If there is no such line, the name is empty.
abbrev pub name_of : List Named → ℕ → Option Peer → List ℕ
name_of lines number at =
    option_map_or (λ x. x.name) (find (λ x. is_named x.key number at) lines) []

-- The keys of all lines with this name, in order.
abbrev pub keys_with : List ℕ → List Named → List PartyName
keys_with name lines = map (λ x. x.key) (filter (λ x. bytes_eq x.name name) lines)

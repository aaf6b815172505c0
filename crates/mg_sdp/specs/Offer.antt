-- What an alternative offers. This project's profile of RFC 4566, sections 5.1 (v=), 5.7 (c=), 5.14 (m=) and 6
-- (a=ptime), decides which lines are supported. Lines of other kinds are ignored.
use Rattle.std.specs.Prelude.{ℕ, ◌&&◌, ◌||◌, not, nat_eq, Bool, List, [], ◌∷◌, Option, Some, None}
use Rattle.std.specs.Prelude.{codes, if◌then◌else◌}
use Rattle.std.specs.Str.{byte, bytes_eq}
use Rattle.std.specs.List.{list_all, last_or, starts_with}
use Rattle.std.specs.Option.{option_map_or}
use Rattle.mg_words.specs.OptionSteps.{◌>>=◌}
use Rattle.mg_sdp.specs.Lines.{values_of}
use Rattle.mg_sdp.specs.Fields.{fields_of}
use Rattle.mg_sdp.specs.declared.media.MediaLine.{MediaLine}
use Rattle.mg_sdp.specs.Media.{media_in}
use Rattle.mg_sdp.specs.Connection.{connection_in}
use Rattle.mg_sdp.specs.declared.offer.Offer.{Offer}

-- Whether the version of SDP is 0.
abbrev pub is_served_version : List ℕ → Bool
is_served_version value = bytes_eq value (codes "0")

-- Whether an attribute is supported. A packet time must be 20 ms; all other attributes are ignored.
abbrev pub is_served_attribute : List ℕ → Bool
is_served_attribute value =
    not (starts_with nat_eq value (codes "ptime:")) || bytes_eq value (codes "ptime:20")

-- The port and law that the only media line asks for. `None` if the lines don't have exactly one media line, or if it
-- is not supported.
abbrev pub only_media : List (List ℕ) → Option MediaLine
only_media (value ∷ []) = media_in (fields_of value)
only_media _ = None

-- The offer of an alternative, or None if it doesn't have exactly one media line, or if one of its lines is not
-- supported. Of the connection lines, only the last counts. Without a connection line, the address is left to the
-- gateway.
unfoldable pub offer_of : List (List ℕ) → Option Offer
offer_of lines = do
  address ← option_map_or (λ value. connection_in (fields_of value))
      (last_or None (values_of (byte "c") lines)) (Some None)
  media ← only_media (values_of (byte "m") lines)
  if list_all is_served_version (values_of (byte "v") lines)
      && list_all is_served_attribute (values_of (byte "a") lines)
      then Some (record { address = address; port = media.port; law = media.law }) else None

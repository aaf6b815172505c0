-- Media lines (RFC 4566, section 5.14) for G.711 over RTP (RFC 3551, section 6: payload types 0 and
-- 8). A $ leaves the choice to the gateway (RFC 3525, section 7.1.8).
use Rattle.std.specs.Prelude.{ℕ, ◌&&◌, List, ◌∷◌, Option, Some, None, codes, slice_get}
use Rattle.std.specs.Prelude.{if◌then◌else◌}
use Rattle.std.specs.Str.{bytes_eq, str_eq_ignore_ascii_case}
use Rattle.std.specs.List.{filter_map}
use Rattle.std.specs.Option.{option_map}
use Rattle.mg_words.specs.Numbers.{port_of}
use Rattle.mg_words.specs.OptionSteps.{◌>>=◌}
use Rattle.mg_g711.specs.declared.law.Law.{Law}
use Rattle.mg_g711.specs.declared.law.Law.TheVariants.{Mu, A}
use Rattle.mg_sdp.specs.declared.media.MediaLine.{MediaLine}

-- The value of a field, or `Some None` for $.
abbrev pub requested_in_field : {X : Type 0} → (List ℕ → Option X) → List ℕ → Option (Option X)
requested_in_field read field =
    if bytes_eq field (codes "$") then Some None else option_map Some (read field)

-- The law of a format: mu-law for 0, A-law for 8, and `Some None` for $.
unfoldable pub law_of : List ℕ → Option (Option Law)
law_of format =
    if bytes_eq format (codes "0") then Some (Some Mu)
    else (if bytes_eq format (codes "8") then Some (Some A)
    else (if bytes_eq format (codes "$") then Some None
    else None))

-- The law of the first format that is 0, 8 or $.
abbrev pub first_law : List (List ℕ) → Option (Option Law)
first_law formats = slice_get (filter_map law_of formats) 0

abbrev pub requested_media : Option (Option ℕ) → Option (Option Law) → Option MediaLine
requested_media port law = do
  port ← port
  law ← law
  Some (record { port = port; law = law })

-- The media line: "audio" port "RTP/AVP" 1*format, ignoring case.
unfoldable pub media_in : List (List ℕ) → Option MediaLine
media_in (kind ∷ port ∷ protocol ∷ formats) =
    if str_eq_ignore_ascii_case kind (codes "audio")
    && str_eq_ignore_ascii_case protocol (codes "RTP/AVP")
    then requested_media (requested_in_field port_of port) (first_law formats) else None
media_in _ = None

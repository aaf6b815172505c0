-- Reading the lines of a descriptor's content one by one. Offer and Alternatives define the meaning of lines.
use Rattle.std.specs.Prelude.{ℕ, ◌==◌, ◌&&◌, Bool, true, false, nat_lt, List, [], ◌∷◌, ◌++◌, Option}
use Rattle.std.specs.Prelude.{Some, None, Result, Ok, Err, length, unwrap_or, if◌then◌else◌}
use Rattle.std.specs.Str.{byte}
use Rattle.mg_words.specs.Limits.{alternative_limit}
use Rattle.mg_sdp.specs.declared.media.MediaLine.{MediaLine}
use Rattle.mg_sdp.specs.declared.part.AlternativePart.{AlternativePart}
use Rattle.mg_sdp.specs.declared.part.AlternativePart.TheVariants.{Missing, Given, Faulty}
use Rattle.mg_sdp.specs.declared.offer.Offer.{Offer}
use Rattle.mg_sdp.specs.declared.fault.SdpFault.{SdpFault}
use Rattle.mg_sdp.specs.declared.fault.SdpFault.TheVariants.{TooMany}
use Rattle.mg_sdp.specs.declared.alternative.Alternative.{Alternative}
use Rattle.mg_sdp.specs.Lines.{letter_and_value}
use Rattle.mg_sdp.specs.Fields.{fields_of}
use Rattle.mg_sdp.specs.Media.{media_in}
use Rattle.mg_sdp.specs.Connection.{connection_in}
use Rattle.mg_sdp.specs.Offer.{is_served_version, is_served_attribute}
use Rattle.mg_sdp.specs.aids.Progress.{Progress}

abbrev pub part_of : {X : Type 0} → Option X → AlternativePart X
part_of None = Faulty
part_of (Some x) = Given x

abbrev pub media_with_line : AlternativePart MediaLine → List ℕ → AlternativePart MediaLine
media_with_line Missing value = part_of (media_in (fields_of value))
media_with_line (Given media) value = Faulty
media_with_line Faulty value = Faulty

abbrev pub connection_with_line : List ℕ → AlternativePart (Option (List ℕ))
connection_with_line value = part_of (connection_in (fields_of value))

abbrev pub no_lines : Alternative
no_lines = record { holds = true; media = Missing; connection = Missing }

abbrev pub with_line : Alternative → ℕ → List ℕ → Alternative
with_line old letter value =
    if letter == byte "v" then record {
      holds = old.holds && is_served_version value;
      media = old.media;
      connection = old.connection;
    }
    else (if letter == byte "a" then record {
      holds = old.holds && is_served_attribute value;
      media = old.media;
      connection = old.connection;
    }
    else (if letter == byte "m" then record {
      holds = old.holds;
      media = media_with_line old.media value;
      connection = old.connection;
    }
    else (if letter == byte "c" then record {
      holds = old.holds;
      media = old.media;
      connection = connection_with_line value;
    }
    else old)))

abbrev pub offer_with : MediaLine → Option (List ℕ) → Offer
offer_with media address = record { address = address; port = media.port; law = media.law }

abbrev pub offer_at : Bool → AlternativePart MediaLine → Option (List ℕ) → Option Offer
offer_at holds Missing address = None
offer_at holds (Given media) address = if holds then Some (offer_with media address) else None
offer_at holds Faulty address = None

abbrev pub offer_from : Bool → AlternativePart MediaLine → AlternativePart (Option (List ℕ))
    → Option Offer
offer_from holds media Missing = offer_at holds media None
offer_from holds media (Given address) = offer_at holds media address
offer_from holds media Faulty = None

abbrev pub offer_by : Alternative → Option Offer
offer_by alternative = offer_from alternative.holds alternative.media alternative.connection

abbrev pub progress_at_start : Progress
progress_at_start = record { offers = []; current = None; over = false }

abbrev pub ended_at : Progress → Option Alternative → Progress
ended_at old None = old
ended_at old (Some alternative) =
    if nat_lt (length old.offers) alternative_limit
    then record {
      offers = old.offers ++ offer_by alternative ∷ [];
      current = None;
      over = old.over;
    }
    else record { offers = old.offers; current = None; over = true }

abbrev pub ended : Progress → Progress
ended old = ended_at old old.current

abbrev pub continued : Progress → ℕ → List ℕ → Progress
continued old letter value =
    record {
      offers = old.offers;
      current = Some
          (with_line (unwrap_or old.current no_lines) letter value);
      over = old.over;
    }

abbrev pub line_read_at : Progress → Option (ℕ × List ℕ) → Progress
line_read_at old None = old
line_read_at old (Some parts) =
    continued (if parts.0 == byte "v" then ended old else old) parts.0 parts.1

unfoldable pub line_read : Progress → List ℕ → Progress
line_read old line = line_read_at old (letter_and_value line)

abbrev pub offers_at_end : Progress → Result (List (Option Offer)) SdpFault
offers_at_end old = if old.over then Err TooMany else Ok old.offers

unfoldable pub finished : Progress → Result (List (Option Offer)) SdpFault
finished old = offers_at_end (ended old)

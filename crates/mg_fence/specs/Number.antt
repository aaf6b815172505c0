-- The number in the name of a message's sender, such as 17 in `MEGACO/1 <17.lobby.example>`.
use Rattle.std.specs.Prelude.{◌≡◌, ℕ, ◌==◌, ◌&&◌, List, drop, slice_index_or, Option, None}
use Rattle.std.specs.Prelude.{option_and_then, if◌then◌else◌}
use Rattle.std.specs.Char.{is_ascii_alphabetic}
use Rattle.mg_words.specs.Cut.{cut}
use Rattle.mg_words.specs.Numbers.{number_of}
use Rattle.mg_scan.specs.Span.{text_of}
use Rattle.mg_core.specs.declared.parsed.Parsed.{Parsed}
use Rattle.mg_core.specs.declared.parsed.Parsed.TheVariants.{Message, Refused}
use Rattle.mg_core.specs.Parsed.{IsReadingOf}

-- The number in a message's sender name, which is split at its first dot. The part before the dot must consist of an
-- angle bracket, which begins a domain name, and the number. A letter must follow the dot. Otherwise the message has no
-- number. A datagram that is rejected as a whole has no number either.
abbrev pub number_in : List ℕ → Parsed → Option ℕ
number_in bytes (Message m) = option_and_then (λ p.
    if slice_index_or p.0 0 0 == 60 && is_ascii_alphabetic (slice_index_or p.1 0 0)
    then number_of (drop 1 p.0) else None) (cut 46 (text_of bytes m.sender))
number_in bytes (Refused fault) = None

abbrev pub HasNumber : List ℕ → Option ℕ → Type 0
HasNumber bytes n = (parsed : Parsed) × IsReadingOf bytes parsed × (n ≡ number_in bytes parsed)

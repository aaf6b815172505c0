-- The result of reading a descriptor's content.
use Rattle.std.specs.Prelude.{◌≡◌, ℕ, List, Option, Result}
use Rattle.mg_sdp.specs.declared.fault.SdpFault.{SdpFault}
use Rattle.mg_sdp.specs.declared.offer.Offer.{Offer}
use Rattle.mg_sdp.specs.Alternatives.{AreAlternatives, offers_read}
use Rattle.mg_sdp.specs.Lines.{content_lines}

-- The result of reading a descriptor's content is what its lines and their alternatives determine.
abbrev pub IsContentReading : List ℕ → Result (List (Option Offer)) SdpFault → Type 0
IsContentReading content result =
    (alternatives : List (List (List ℕ))) × AreAlternatives (content_lines content) alternatives
    × (result ≡ offers_read (content_lines content) alternatives)

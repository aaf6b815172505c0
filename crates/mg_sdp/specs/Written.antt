-- The text of a session description (RFC 4566, section 5) as this gateway writes it.
use Rattle.std.specs.Prelude.{ℕ, List, ◌++◌, Some, codes, decimal}
use Rattle.mg_words.specs.Address.{address_text}
use Rattle.mg_sdp.specs.declared.offer.Offer.{Offer}
use Rattle.mg_g711.specs.declared.law.Law.{Law}
use Rattle.mg_g711.specs.declared.law.Law.TheVariants.{Mu, A}
use Rattle.mg_sdp.specs.declared.chosen.Chosen.{Chosen}

-- The payload type of a law (RFC 3551, section 6).
abbrev pub law_text : Law → List ℕ
law_text Mu = codes "0"
law_text A = codes "8"

-- The four lines of a description: version, connection, media and packet time.
abbrev pub session_text : Chosen → List ℕ
session_text chosen =
    codes "v=0\r\n"
    ++ (codes "c=IN IP4 " ++ (address_text chosen.address ++ (codes "\r\n"
    ++ (codes "m=audio " ++ (decimal chosen.port
    ++ (codes " RTP/AVP " ++ (law_text chosen.law ++ (codes "\r\n"
    ++ codes "a=ptime:20\r\n"))))))))

-- The offer that a written description reads back as.
abbrev pub offer_written : Chosen → Offer
offer_written chosen =
    record { address = Some chosen.address; port = Some chosen.port; law = Some chosen.law }

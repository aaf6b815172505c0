-- The text of a written session description, and rules that bound its length.
use Rattle.std.proofs.Common.{codes, [], ◌≡◌, ◌+◌, ◌++◌, append_assoc, decimal}
use Rattle.mg_words.proofs.DecimalLemmas.{byte_short, port_short}
use Rattle.mg_words.specs.Address.{address_text}
use Rattle.mg_sdp.specs.Written.{law_text, session_text}
use Rattle.mg_sdp.specs.declared.chosen.Chosen.{Chosen}

pub ruleset lengths = (byte_short, port_short, append_assoc)

-- The parts that the code writes form the text of the definition.
pub parts_joined : (chosen : Chosen) → (((((([] ++ codes "v=0\r\nc=IN IP4 ") ++ address_text chosen.address) ++
    codes "\r\nm=audio ") ++ decimal chosen.port) ++ codes " RTP/AVP ") ++ law_text chosen.law) ++
    codes "\r\na=ptime:20\r\n" ≡ session_text chosen
parts_joined chosen = simp append_assoc

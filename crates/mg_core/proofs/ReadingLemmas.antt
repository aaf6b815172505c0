-- Each control datagram has a reading.
use Rattle.std.proofs.Common.{ℕ, List}
use Rattle.mg_scan.specs.Span.{text_of}
use Rattle.mg_words.specs.declared.error_number.ErrorNumber.TheVariants as numbers
use Rattle.mg_text.specs.MessageReading.{MessageReading, IsMessageReading}
use Rattle.mg_text.specs.MessageReading as readings
use Rattle.mg_text.proofs.ProperLemmas.{tree_proper}
use Rattle.mg_text.proofs.SenderLemmas.{sender_short}
use Rattle.mg_core.specs.declared.parsed.Parsed.{Parsed}
use Rattle.mg_core.specs.declared.parsed.Parsed.TheVariants.{Message, Refused}
use Rattle.mg_core.specs.Parsed.{IsReadingOf}

pub some_reading : (bytes : List ℕ) (reading : MessageReading) → IsMessageReading bytes reading →
    (parsed : Parsed) × IsReadingOf bytes parsed
some_reading bytes (readings.Read m) h =
    (Message m, (h, tree_proper bytes m h.tree, sender_short (text_of bytes m.sender) h.tree.is.2.1.0))
some_reading bytes readings.TooMany h = (Refused numbers.NotServed, h)
some_reading bytes (readings.OtherVersion n) h = (Refused numbers.Version, (n, h))
some_reading bytes readings.NoMessage h = (Refused numbers.Syntax, h)

-- The reading of a control datagram: a message, or an error with which it is rejected as a whole.
use Rattle.std.specs.Prelude.{◌≡◌, ℕ, ◌≤◌, true, List, length}
use Rattle.mg_scan.specs.Span.{text_of}
use Rattle.mg_words.specs.declared.error_number.ErrorNumber.TheVariants.{Syntax, Version, NotServed}
use Rattle.mg_words.specs.Limits.{sender_limit}
use Rattle.mg_text.specs.Message.{IsMessage, IsTooMany, HasOtherVersion, items_of}
use Rattle.mg_text.specs.MessageReading.{IsNoMessage}
use Rattle.mg_text.specs.Proper.{are_proper}
use Rattle.mg_core.specs.declared.parsed.Parsed.{Parsed}
use Rattle.mg_core.specs.declared.parsed.Parsed.TheVariants.{Message, Refused}

-- The reading is a message if the bytes have this tree and the tree is proper. Otherwise the bytes don't follow the
-- grammar, have a head of another version, or exceed a limit, and the reading is the error for this fault. No other
-- error rejects a datagram as a whole.
abbrev pub IsReadingOf : List ℕ → Parsed → Type 0
IsReadingOf bytes (Message m) =
    IsMessage bytes m
    × (are_proper bytes (items_of m.body) ≡ true)
    × (length (text_of bytes m.sender) ≤ sender_limit)
IsReadingOf bytes (Refused Syntax) = IsNoMessage bytes
IsReadingOf bytes (Refused Version) = (n : ℕ) × HasOtherVersion bytes n
IsReadingOf bytes (Refused NotServed) = IsTooMany bytes
IsReadingOf bytes (Refused _) = ⊥

-- A datagram has at most one reading.
abbrev pub ReadingsAreUnique : Type 0
ReadingsAreUnique =
    (bytes : List ℕ) (a b : Parsed) → IsReadingOf bytes a → IsReadingOf bytes b → a ≡ b

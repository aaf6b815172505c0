-- Parsing a message: its head, its sender and its body.
use Rattle.std.specs.Prelude.{◌≡◌, ℕ, ◌-◌, ◌==◌, ◌&&◌, nat_le, Bool, true, false, min, List, Option}
use Rattle.std.specs.Prelude.{Some, None, Result, Ok, Err, if◌then◌else◌}
use Rattle.mg_words.specs.Limits.{request_limit, command_limit}
use Rattle.mg_scan.specs.declared.span.Span.{Span}
use Rattle.mg_scan.specs.declared.token.Token.{Token}
use Rattle.mg_scan.specs.Span.{text_of}
use Rattle.mg_text.specs.declared.fault.ReadFault.{ReadFault}
use Rattle.mg_text.specs.declared.fault.ReadFault.TheVariants.{NoMemory, Syntax, Version, TooMany}
use Rattle.mg_text.specs.declared.body.Body.{Body}
use Rattle.mg_text.specs.declared.message.Message.{Message}
use Rattle.mg_text.specs.declared.body.MessageItem.{MessageItem}
use Rattle.mg_text.specs.Message.{requests_in, commands_in, items_of}
use Rattle.mg_words.specs.ResultSteps.{◌>>=◌}
use Rattle.mg_text.specs.aids.Reading.{Agrees, word_at, meaning_at}
use Rattle.mg_text.specs.aids.Requests.{body_at}
use Rattle.mg_text.specs.Head.{version_in_head}
use Rattle.mg_text.specs.Sender.{is_sender}

abbrev pub version_at : List ℕ → List Token → Result (ℕ × List Token) ℕ
version_at = meaning_at version_in_head

unfoldable pub sender_at : List ℕ → List Token → Result (Span × List Token) ℕ
sender_at source ts = do
  word ← word_at source ts
  if is_sender (text_of source word.0) then Ok word else Err word.0.start

abbrev pub message_of : Span → Body → Message
message_of sender body = record { sender = sender; body = body }

unfoldable pub text_at : List ℕ → List Token → Result Message ℕ
text_at source ts = do
  sender ← sender_at source ts
  body ← body_at source sender.1
  Ok (message_of sender.0 body)

-- The fault, with its position clamped to a source of this length.
abbrev pub fault_within : ℕ → ReadFault → ReadFault
fault_within len NoMemory = NoMemory
fault_within len (Syntax place) = Syntax (min place len)
fault_within len (Version n) = Version n
fault_within len TooMany = TooMany

-- The difference of two numbers, if it is not negative.
abbrev pub left_after : ℕ → ℕ → Option ℕ
left_after most n = if nat_le n most then Some (most - n) else None

-- Whether there are at most this many requests, with at most this many commands in total.
abbrev pub is_within : ℕ → ℕ → List MessageItem → Bool
is_within requests commands xs =
    nat_le (requests_in xs) requests && nat_le (commands_in xs) commands

-- The message if it is within the limits, and otherwise a fault.
abbrev pub answer_of : ℕ → Result Message ReadFault → Result Message ReadFault
answer_of len (Ok m) =
    if is_within request_limit command_limit (items_of m.body) then Ok m else Err TooMany
answer_of len (Err fault) = Err (fault_within len fault)

-- The statement P holds unless memory ran out.
abbrev pub UnlessNoMemory : Result Message ReadFault → Type 0 → Type 0
UnlessNoMemory (Ok m) P = P
UnlessNoMemory (Err NoMemory) P = Unit {0}
UnlessNoMemory (Err (Syntax place)) P = P
UnlessNoMemory (Err (Version n)) P = P
UnlessNoMemory (Err TooMany) P = P

-- The result of parsing after a head with a version. A version other than 1 is a separate fault.
-- After version 1, a scan fault in the source is a syntax fault.
abbrev pub AgreesText : Result Message ReadFault → Bool → Bool → ℕ → Result Message ℕ → Type 0
AgreesText result false faulty n text = result ≡ Err (Version n)
AgreesText result true true n text = (place : ℕ) × (result ≡ Err (Syntax place))
AgreesText result true false n text = Agrees (λ m. m) result text

abbrev pub AgreesAfter : Result Message ReadFault → Result (ℕ × List Token) ℕ → Bool
    → (List Token → Result Message ℕ) → Type 0
AgreesAfter result (Ok v) faulty text = AgreesText result (v.0 == 1) faulty v.0 (text v.1)
AgreesAfter result (Err place) faulty text = (place : ℕ) × (result ≡ Err (Syntax place))

abbrev pub AgreesVersioned : Result Message ReadFault → Result (ℕ × List Token) ℕ → Bool
    → (List Token → Result Message ℕ) → Type 0
AgreesVersioned result version faulty text =
    UnlessNoMemory result (AgreesAfter result version faulty text)

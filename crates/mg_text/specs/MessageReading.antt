-- The result of reading a datagram.
use Rattle.std.specs.Prelude.{ℕ, ◌≤◌, List, length}
use Rattle.mg_words.specs.Limits.{message_limit}
use Rattle.mg_text.specs.declared.message.Message.{Message}
use Rattle.mg_text.specs.Message.{IsTree, IsMessage, IsTooMany, HasOtherVersion}

-- A message with its tree, a datagram that exceeds a limit, a message of another version, or a datagram that is not a
-- message.
pub data MessageReading : Type 0 where
  Read : (message : Message) → MessageReading
  TooMany : MessageReading
  OtherVersion : (version : ℕ) → MessageReading
  NoMessage : MessageReading

-- The bytes are within the length limit, have no head of another version, and do not follow the grammar.
pub record IsNoMessage (bytes : List ℕ) : Type 0 where
  pub short : length bytes ≤ message_limit
  pub no_version : (n : ℕ) → HasOtherVersion bytes n → ⊥
  pub no_tree : (m : Message) → IsTree bytes m → ⊥

abbrev pub IsMessageReading : List ℕ → MessageReading → Type 0
IsMessageReading bytes (Read m) = IsMessage bytes m
IsMessageReading bytes TooMany = IsTooMany bytes
IsMessageReading bytes (OtherVersion n) = HasOtherVersion bytes n
IsMessageReading bytes NoMessage = IsNoMessage bytes

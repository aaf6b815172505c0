-- Definitions of messages, and of datagrams that are not valid messages.
use Rattle.std.specs.Prelude.{◌≡◌, ◌≢◌, ℕ, ◌+◌, ◌<◌, ◌≤◌, ◌⊎◌, false, List, [], ◌∷◌, length, Option}
use Rattle.std.specs.Prelude.{None, Err}
use Rattle.std.specs.Option.{option_map}
use Rattle.mg_words.specs.Limits.{message_limit, request_limit, command_limit}
use Rattle.mg_scan.specs.declared.fault.ScanFault.{ScanFault}
use Rattle.mg_scan.specs.declared.token.Token.{Token}
use Rattle.mg_scan.specs.Scanner.{Scanning, IsNext, rest_of}
use Rattle.mg_scan.specs.Tokens.{first_token}
use Rattle.mg_text.specs.declared.request.Action.{Action}
use Rattle.mg_text.specs.declared.body.MessageItem.{MessageItem}
use Rattle.mg_text.specs.declared.body.MessageItem.TheVariants as items
use Rattle.mg_text.specs.declared.body.Body.{Body}
use Rattle.mg_text.specs.declared.body.Body.TheVariants as bodies
use Rattle.mg_text.specs.declared.message.Message.{Message}
use Rattle.mg_text.specs.Head.{version_in_head}
use Rattle.mg_text.specs.Grammar.{IsText, IsWorded}

-- Scanning these tokens leads from the old state of the scanner to the new state.
abbrev pub Reaches : Scanning → List Token → Scanning → Type 0
Reaches old [] new = old ≡ new
Reaches old (t ∷ ts) new =
    (next : Scanning) × (next.source ≡ old.source) × IsNext old t next × Reaches next ts new

abbrev pub scanning_of : List ℕ → Scanning
scanning_of source = record { source = source; at = 0; named = false }

-- The bytes consist of these tokens, followed by a fault or the end.
pub record AreTokens (source : List ℕ) (ts : List Token) (fault : Option ScanFault) : Type 0 where
  pub last : Scanning
  pub way : Reaches (scanning_of source) ts last
  pub end : first_token last.named (rest_of last) ≡ option_map Err fault

-- The bytes follow the grammar and have this tree. There are at most 8192 bytes.
pub record IsTree (source : List ℕ) (m : Message) : Type 0 where
  pub short : length source ≤ message_limit
  pub tokens : List Token
  pub are : AreTokens source tokens None
  pub is : IsText source m tokens

-- These definitions count the requests among the items, and the commands in these requests.
abbrev pub requests_in : List MessageItem → ℕ
requests_in [] = 0
requests_in (items.Request x ∷ xs) = 1 + requests_in xs
requests_in (items.Acknowledgement ranges ∷ xs) = requests_in xs

abbrev pub action_commands : List Action → ℕ
action_commands [] = 0
action_commands (x ∷ xs) = length x.commands + action_commands xs

abbrev pub commands_in : List MessageItem → ℕ
commands_in [] = 0
commands_in (items.Request x ∷ xs) = action_commands x.actions + commands_in xs
commands_in (items.Acknowledgement ranges ∷ xs) = commands_in xs

abbrev pub items_of : Body → List MessageItem
items_of (bodies.Requests xs) = xs
items_of bodies.Ignored = []

-- The bytes are a message with this tree, of at most 4 requests and at most 64 commands in total.
pub record IsMessage (source : List ℕ) (m : Message) : Type 0 where
  pub tree : IsTree source m
  pub requests : requests_in (items_of m.body) ≤ request_limit
  pub commands : commands_in (items_of m.body) ≤ command_limit

-- The message exceeds the limit on requests or on commands.
abbrev pub ExceedsLimits : Message → Type 0
ExceedsLimits m =
    (request_limit < requests_in (items_of m.body))
    ⊎ (command_limit < commands_in (items_of m.body))

-- The bytes are too long, or their tree exceeds the limits.
abbrev pub IsTooMany : List ℕ → Type 0
IsTooMany source =
    (message_limit < length source) ⊎ ((m : Message) × IsTree source m × ExceedsLimits m)

-- The bytes start with a head of another version. The head may be followed by anything, up to 8192 bytes in all.
pub record HasOtherVersion (source : List ℕ) (version : ℕ) : Type 0 where
  pub short : length source ≤ message_limit
  pub tokens : List Token
  pub rest : List Token
  pub fault : Option ScanFault
  pub are : AreTokens source tokens fault
  pub head : IsWorded version_in_head source version tokens rest
  pub other : version ≢ 1

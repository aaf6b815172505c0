-- Names for parts of the definitions, which the proofs use.
use Rattle.std.specs.Prelude.{ℕ, ◌≤◌, List, length, Option, Result, Err}
use Rattle.std.specs.List.{filter_map}
use Rattle.std.specs.Option.{option_map}
use Rattle.mg_words.specs.Limits.{message_limit}
use Rattle.mg_scan.specs.declared.fault.ScanFault.{ScanFault}
use Rattle.mg_scan.specs.Tokens.{TokenAndRest}
use Rattle.mg_text.specs.declared.body.MessageItem.{MessageItem}

-- The result of scanning after the last token: nothing, or a fault.
abbrev pub ending : Option ScanFault → Option (Result TokenAndRest ScanFault)
ending fault = option_map Err fault

-- The items that are kept.
abbrev pub kept : List (Option MessageItem) → List MessageItem
kept xs = filter_map (λ x. x) xs

-- The datagram is within the length limit.
abbrev pub IsShort : List ℕ → Type 0
IsShort source = length source ≤ message_limit

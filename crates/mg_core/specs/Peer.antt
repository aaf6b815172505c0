-- The text form of peers.
use Rattle.std.specs.Prelude.{ℕ, List, ◌++◌, Option, Some, codes, decimal}
use Rattle.mg_words.specs.Numbers.{port_of}
use Rattle.mg_words.specs.OptionSteps.{◌>>=◌}
use Rattle.mg_words.specs.Address.{address_of}
use Rattle.mg_words.specs.Cut.{cut}
use Rattle.mg_words.specs.Address.{address_text}
use Rattle.mg_words.specs.declared.peer.Peer.{Peer}

abbrev pub peer : List ℕ → ℕ → Peer
peer address port = record { address = address; port = port }

-- The peer with this text: an address, a colon and a port.
unfoldable pub peer_of : List ℕ → Option Peer
peer_of text = do
  parts ← cut 58 text
  address ← address_of parts.0
  port ← port_of parts.1
  Some (peer address port)

-- The text of a peer, in decimal without leading zeros.
abbrev pub peer_text : Peer → List ℕ
peer_text p = address_text p.address ++ (codes ":" ++ decimal p.port)

-- The setup of a session, and the peers whose datagrams it accepts.
use Rattle.std.specs.Prelude.{ℕ, zero, suc, ◌==◌, ◌&&◌, ◌||◌, not, Bool, false, List, length}
use Rattle.std.specs.Prelude.{Option}
use Rattle.std.specs.List.{list_any}
use Rattle.std.specs.Option.{option_and_then, option_map_or}
use Rattle.std.specs.Str.{bytes_eq}
use Rattle.mg_words.specs.declared.peer.Peer.{Peer}
use Rattle.mg_sdp.specs.declared.chosen.Chosen.{Chosen}
use Rattle.mg_rooms.specs.Registry.{holder_of}
use Rattle.mg_engine.specs.declared.config.Config.{Config}
use Rattle.mg_core.specs.World.{World}
use Rattle.mg_fence.specs.declared.fence.Fence.{Fence}
use Rattle.mg_journal.specs.declared.durability.Durability.{Durability}
use Rattle.mg_serve.specs.declared.fencing.Fencing.{Fencing}

-- The setup of a session: the gateway's configuration, the addresses of its controllers, and whether callers must use
-- symmetric RTP. If there is a journal, `journal` is the durability with which messages are appended, and `head` is the
-- text with which a renewed journal begins. If there is a fence, `fence` is its state at the start. `reached` is the
-- number that messages had reached at the start.
pub record Setup : Type 0 where
  pub config : Config
  pub controllers : List (List ℕ)
  pub symmetric_rtp : Bool
  pub journal : Option Durability
  pub fence : Option Fence
  pub head : List ℕ
  pub reached : ℕ

-- The fence and the number reached at the start.
abbrev pub fencing_of : Setup → Fencing
fencing_of setup = record { fence = setup.fence; reached = setup.reached }

-- Whether control messages from an address are accepted: the address is listed, or no address is listed.
abbrev pub may_command : List (List ℕ) → List ℕ → Bool
may_command controllers address =
    length controllers == 0 || list_any (λ (listed : List ℕ). bytes_eq listed address) controllers

-- Whether the peer has the address and the port of a Remote.
abbrev pub is_remote : Option Chosen → Peer → Bool
is_remote remote peer =
    option_map_or (λ to. bytes_eq to.address peer.address && to.port == peer.port) remote false

-- Whether a datagram from this peer is accepted at a socket. Socket 0 is the control socket. With symmetric RTP (RFC
-- 4961), a media socket accepts packets only from the Remote of its termination.
abbrev pub is_admitted : Setup → World → ℕ → Peer → Bool
is_admitted setup w zero peer = may_command setup.controllers peer.address
is_admitted setup w (suc slot) peer =
    not setup.symmetric_rtp
    || is_remote (option_and_then (λ r. r.remote) (holder_of w.gateway.rooms slot)) peer

-- If a listener does not hear certain terminations, and is not one of them in Loopback, the packets to it do not depend
-- on what those terminations receive.
use Rattle.std.specs.Prelude.{◌≡◌, ℕ, ◌&&◌, true, false, List, map, Some, if◌then◌else◌}
use Rattle.mg_words.specs.declared.stats.Stats.{Stats}
use Rattle.mg_playout.specs.Playout.{first_list}
use Rattle.mg_rooms.specs.declared.record.Record.{Record}
use Rattle.mg_sums.specs.Samples.{silence}
use Rattle.mg_engine.specs.Arrival.{at_port}
use Rattle.mg_engine.specs.Flow.{has, flow}
use Rattle.mg_engine.specs.Gateway.{Gateway, TerminationMedia}
use Rattle.mg_engine.specs.Isolation.{hears_itself}
use Rattle.mg_engine.specs.Tick.{all_played, packet_of}

-- ## Agreement

-- The counters as they would be if no packet had been received.
abbrev pub but_received : Stats → Stats
but_received s = record s { pr = 0; or_ = 0 }

-- The media without what their termination received: the play list is a new one, the frame is silent, and no packet was
-- received.
abbrev pub without_arrivals : TerminationMedia → TerminationMedia
without_arrivals s =
    record s { play = first_list; frame = silence; stats = but_received s.stats }

-- The media without arrivals for a termination in the list, and the unchanged media for any other termination.
abbrev pub unless_among : List ℕ → TerminationMedia → TerminationMedia
unless_among some s = if has some s.number then without_arrivals s else s

-- Two gateways agree outside some terminations if they differ only in what those terminations received: their play
-- lists, current frames, and counters of received packets.
pub record AgreeOutside (some : List ℕ) (a b : Gateway) : Type 0 where
  pub config : a.config ≡ b.config
  pub rooms : a.rooms ≡ b.rooms
  pub edits : a.edits ≡ b.edits
  pub media : map (unless_among some) a.media ≡ map (unless_among some) b.media

-- The port belongs to a termination in the list.
abbrev pub IsPortAmong : List ℕ → Gateway → ℕ → Type 0
IsPortAmong some w port =
    (r : Record) × (at_port w.rooms port ≡ Some r) × (has some r.number ≡ true)

-- ## Packets of gateways that agree

-- The listener hears none of these terminations, and is not one of them in Loopback.
pub record HearsNone (some : List ℕ) (w : Gateway) (listener : ℕ) : Type 0 where
  pub others : (talker : ℕ) → has some talker ≡ true → flow w talker listener ≡ false
  pub own : (has some listener && hears_itself w listener) ≡ false

-- Suppose that two gateways agree outside some terminations, and that a listener hears none of these terminations and
-- is not one of them in Loopback. Then a tick of either gateway sends this listener the same packet, byte for byte, or
-- none.
abbrev pub SamePackets : Type 0
SamePackets =
    (some : List ℕ) (a b : Gateway) (r : Record)
    → AgreeOutside some a b → HearsNone some a r.number
    → packet_of (all_played a) r ≡ packet_of (all_played b) r

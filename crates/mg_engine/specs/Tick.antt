-- The effects of a tick of 20 ms, and the packets that it sends (RFC 3550, section 5.1; RFC 3551, sections 4.1 and 6).
use Rattle.std.specs.Prelude.{ℕ, ◌+◌, ◌-◌, ◌*◌, ◌%◌, ◌^◌, Bool, true, false, not, List}
use Rattle.std.specs.Prelude.{◌++◌, map}
use Rattle.std.specs.Prelude.{count_by, filter_map, Option, None, is_some, if◌then◌else◌}
use Rattle.std.specs.Option.{option_map, option_map_or}
use Rattle.mg_g711.specs.declared.law.Law.{Law}
use Rattle.mg_g711.specs.declared.law.Law.TheVariants.{Mu, A}
use Rattle.mg_g711.specs.Law.{byte_of}
use Rattle.mg_rtp.specs.declared.header.Header.{Header}
use Rattle.mg_rtp.specs.Header.{header_bytes, plain}
use Rattle.mg_sdp.specs.declared.chosen.Chosen.{Chosen}
use Rattle.mg_words.specs.OptionSteps.{◌>>=◌}
use Rattle.mg_playout.specs.Played.{is_concealed, sound_of}
use Rattle.mg_playout.specs.Playout as play_lists
use Rattle.mg_words.specs.declared.mode.Mode.{Mode}
use Rattle.mg_words.specs.declared.mode.Mode.TheVariants.{Inactive, ReceiveOnly}
use Rattle.mg_rooms.specs.declared.record.Record.{Record}
use Rattle.mg_rooms.specs.Limits.{slot_port}
use Rattle.mg_rooms.specs.Registry as rooms
use Rattle.mg_engine.specs.declared.datagram.Datagram.{Datagram}
use Rattle.mg_engine.specs.Gateway.{Gateway, TerminationMedia, media_of, numbers_of}
use Rattle.mg_engine.specs.Steps.{transmitted}
use Rattle.mg_sums.specs.Samples.{frame_or_silence}
use Rattle.mg_engine.specs.Mix.{mixed}

-- ## Frames

-- The media after the play list advances. The frame that the play list plays is the frame of this tick.
abbrev pub played : TerminationMedia → TerminationMedia
played s =
    let after = play_lists.ticked s.play in
    record s { play = after.0; frame = frame_or_silence (sound_of after.1); ticks = s.ticks + 1 }

abbrev pub all_played : Gateway → Gateway
all_played w = record w { media = map played w.media }

-- Whether a termination's play list conceals a missing frame in this tick.
abbrev pub conceals : Gateway → ℕ → Bool
conceals w n =
    option_map_or (λ s. is_concealed ((play_lists.ticked s.play).1)) (media_of w n) false

-- The number of play lists that conceal a missing frame in this tick.
abbrev pub concealed_in_tick : Gateway → ℕ
concealed_in_tick w = count_by (conceals w) (numbers_of w)

-- ## Packets

-- Whether a termination in this mode sends to its peer.
abbrev pub sends : Mode → Bool
sends Inactive = false
sends ReceiveOnly = false
sends _ = true

-- The destination of a termination's packets, or `None` if the termination does not send.
abbrev pub sent_to : Record → Option Chosen
sent_to r = if sends r.mode then r.remote else None

abbrev pub type_of : Law → ℕ
type_of Mu = 0
type_of A = 8

-- The header of a termination's next packet, in its current tick. The marker is set if the last tick didn't send a
-- packet.
abbrev pub header_of : Gateway → Chosen → TerminationMedia → Header
header_of w to s = record {
  marker = not s.sent_last;
  payload_type = type_of to.law;
  sequence = (w.config.sequence + s.packets) % 2 ^ 16;
  timestamp = (w.config.timestamp + 160 * (s.ticks - 1)) % 2 ^ 32;
  ssrc = (w.config.ssrc + s.number) % 2 ^ 32;
}

-- The packet of a termination to its peer. It contains the encoding of the termination's mix.
abbrev pub packet : Gateway → Record → Chosen → TerminationMedia → Datagram
packet w r to s = record {
  from = slot_port w.rooms.limits r.slot;
  to = record { address = to.address; port = to.port };
  bytes = header_bytes plain (header_of w to s) ++ map (byte_of to.law) (mixed w r.number);
}

-- The packet of a termination, or `None` if the termination does not send.
abbrev pub packet_of : Gateway → Record → Option Datagram
packet_of w r = do
  to ← sent_to r
  option_map (packet w r to) (media_of w r.number)

-- The packets of a tick after its frames were played, in order of termination number.
abbrev pub packets : Gateway → List Datagram
packets w = filter_map (packet_of w) w.rooms.terminations

-- ## The end of a tick

abbrev pub sends_at : rooms.Registry → ℕ → Bool
sends_at w n = option_map_or (λ r. is_some (sent_to r)) (rooms.record_at w n) false

abbrev pub sent : Bool → TerminationMedia → TerminationMedia
sent true s = record s { stats = transmitted s.stats; packets = s.packets + 1; sent_last = true }
sent false s = record s { sent_last = false }

-- The gateway after a tick whose frames were played.
abbrev pub all_ended : Gateway → Gateway
all_ended w = record w { media = map (λ s. sent (sends_at w.rooms s.number) s) w.media }

-- ## A tick

abbrev pub after_tick : Gateway → Gateway
after_tick w = all_ended (all_played w)

abbrev pub sent_in_tick : Gateway → List Datagram
sent_in_tick w = packets (all_played w)

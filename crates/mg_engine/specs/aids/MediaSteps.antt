-- Single steps of the media of one slot (RFC 3550, section 5.1).
use Rattle.std.specs.Prelude.{ℕ, ℤ, ◌+◌, ◌*◌, ◌%◌, ◌^◌, Bool, true, false, not, List, Option}
use Rattle.mg_rtp.specs.declared.header.Header.{Header}
use Rattle.mg_playout.specs.declared.placed.Placed.{Placed}
use Rattle.mg_playout.specs.Played.{is_concealed, sound_of}
use Rattle.mg_playout.specs.Playout as play_lists
use Rattle.mg_playout.specs.Playout.{first_list}
use Rattle.mg_engine.specs.declared.config.Config.{Config}
use Rattle.mg_words.specs.Stats.{no_packets}
use Rattle.mg_engine.specs.aids.Media.{SlotMedia, timestamp_before}
use Rattle.mg_words.specs.declared.stats.Stats.{Stats}
use Rattle.mg_engine.specs.Steps.{counted_up, play_after, received, transmitted}
use Rattle.mg_sums.specs.Samples.{frame_or_silence}

-- The timestamp of the next tick, which is 160 samples later.
abbrev pub next_timestamp : ℕ → ℕ
next_timestamp n = (n + 160) % 2 ^ 32

-- The media of a new termination, with the timestamp of its first tick and the sequence number of its first packet.
abbrev pub initial_media_at : ℕ → ℕ → SlotMedia
initial_media_at timestamp sequence =
    record {
      play = first_list;
      stats = no_packets;
      timestamp = timestamp_before timestamp;
      sequence = sequence % 2 ^ 16;
      is_sending = false;
    }

abbrev pub initial_media : Config → SlotMedia
initial_media config = initial_media_at config.timestamp config.sequence

-- The media with the depth that a command specifies.
abbrev pub slot_tuned : Option ℕ → SlotMedia → SlotMedia
slot_tuned depth m = record m { play = play_after depth m.play }

-- The media after a packet is received and its frame is placed, and the result of placing.
abbrev pub slot_placed : SlotMedia → Header → List ℤ → SlotMedia × Placed
slot_placed m header frame =
    let after = play_lists.placed m.play header.ssrc header.sequence frame in
    (record m { play = after.0; stats = received m.stats }, after.1)

-- The media after the play list advances.
abbrev pub slot_played : SlotMedia → SlotMedia
slot_played m =
    record m {
      play = (play_lists.ticked m.play).0;
      timestamp = next_timestamp m.timestamp;
    }

-- The frame that the play list plays in this tick.
abbrev pub frame_played : SlotMedia → List ℤ
frame_played m = frame_or_silence (sound_of ((play_lists.ticked m.play).1))

-- Whether the frame of this tick conceals a missing frame.
abbrev pub is_concealing : SlotMedia → Bool
is_concealing m = is_concealed ((play_lists.ticked m.play).1)

-- The header of the next packet. The marker is set if the last tick didn't send a packet.
abbrev pub header : SlotMedia → ℕ → ℕ → Header
header m payload_type ssrc =
    record {
      marker = not m.is_sending;
      payload_type = payload_type;
      sequence = m.sequence;
      timestamp = m.timestamp;
      ssrc = ssrc;
    }

-- The media after the end of a tick. The flag says whether a packet was sent in the tick.
abbrev pub slot_ended : Bool → SlotMedia → SlotMedia
slot_ended true m =
    record m {
      stats = transmitted m.stats;
      sequence = (m.sequence + 1) % 2 ^ 16;
      is_sending = true;
    }
slot_ended false m = record m { is_sending = false }

-- ## Ticks, one after another

-- The media after a tick. The flag says whether a packet was sent in the tick.
abbrev pub slot_ticked : Bool → SlotMedia → SlotMedia
slot_ticked is_sent m = slot_ended is_sent (slot_played m)

-- The counters after this many packets are sent.
abbrev pub transmitted_by : ℕ → Stats → Stats
transmitted_by count s =
    record s { ps = counted_up count s.ps; os = counted_up (160 * count) s.os }

-- The media after this many ticks (at least one), if the play list is idle. The flag says whether the termination
-- sends.
abbrev pub slot_passed : Bool → ℕ → SlotMedia → SlotMedia
slot_passed true count m =
    record m {
      stats = transmitted_by count m.stats;
      timestamp = (m.timestamp + 160 * count) % 2 ^ 32;
      sequence = (m.sequence + count) % 2 ^ 16;
      is_sending = true;
    }
slot_passed false count m =
    record m { timestamp = (m.timestamp + 160 * count) % 2 ^ 32; is_sending = false }

-- The media that are stored for one slot (RFC 3550, section 5.1).
use Rattle.std.specs.Prelude.{ℕ, ◌+◌, ◌-◌, ◌%◌, ◌^◌, Bool, false}
use Rattle.mg_playout.specs.Playout.{PlayList, first_list}
use Rattle.mg_words.specs.declared.stats.Stats.{Stats}
use Rattle.mg_words.specs.Stats.{no_packets}

-- The play list, the counters, the timestamp of this tick, the sequence number of the next packet, and whether the last
-- tick sent a packet. The frame of this tick is stored in the slot's row.
pub record SlotMedia : Type 0 where
  pub play : PlayList
  pub stats : Stats
  pub timestamp : ℕ
  pub sequence : ℕ
  pub is_sending : Bool

-- The timestamp of the previous tick, which is 160 samples earlier.
abbrev pub timestamp_before : ℕ → ℕ
timestamp_before n = (n + (2 ^ 32 - 160)) % 2 ^ 32

-- The media of a slot without a termination.
abbrev pub idle : SlotMedia
idle = record {
  play = first_list;
  stats = no_packets;
  timestamp = 0;
  sequence = 0;
  is_sending = false;
}

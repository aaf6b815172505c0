-- Engines whose terminations have received nothing, and what a checkpoint says of a gateway (not from a standard).
use Rattle.std.specs.Prelude.{◌≡◌, ℕ, ◌+◌, ◌*◌, ◌%◌, ◌^◌, IsTrue, map, Some}
use Rattle.mg_playout.specs.Playout.{depth_of, first_list}
use Rattle.mg_playout.specs.Places.{empty_places}
use Rattle.mg_rooms.specs.declared.record.Record.{Record}
use Rattle.mg_rooms.specs.Registry.{record_at}
use Rattle.mg_sums.specs.Samples.{silence}
use Rattle.mg_sums.specs.aids.Sums.{frame_of_row}
use Rattle.mg_engine.specs.declared.config.Config.{Config}
use Rattle.mg_engine.specs.declared.sent_media.SentMedia.{SentMedia}
use Rattle.mg_engine.specs.Apart.{but_received}
use Rattle.mg_engine.specs.Flow.{may_hear, share_context}
use Rattle.mg_engine.specs.Gateway.{Gateway, TerminationMedia, media_of}
use Rattle.mg_engine.specs.aids.Media.{SlotMedia, timestamp_before}
use Rattle.mg_engine.specs.aids.Stands.{EngineState, IsMediaOf, media_at}

-- ## What was sent

-- What a termination has sent.
abbrev pub sent_of : Config → TerminationMedia → SentMedia
sent_of config s = record {
  timestamp = (timestamp_before config.timestamp + 160 * s.ticks) % 2 ^ 32;
  sequence = (config.sequence + s.packets) % 2 ^ 16;
  is_sending = s.sent_last;
  sent = s.stats.ps;
  octets = s.stats.os;
}

-- What a termination has sent, as it is stored for a slot.
abbrev pub sent_in : SlotMedia → SentMedia
sent_in m = record {
  timestamp = m.timestamp;
  sequence = m.sequence;
  is_sending = m.is_sending;
  sent = m.stats.ps;
  octets = m.stats.os;
}

-- The media of a slot whose termination has sent this and received nothing.
abbrev pub media_restored : ℕ → SentMedia → SlotMedia
media_restored depth sent = record {
  play = record first_list { places = empty_places depth };
  stats = record { ps = sent.sent; pr = 0; os = sent.octets; or_ = 0 };
  timestamp = sent.timestamp;
  sequence = sent.sequence;
  is_sending = sent.is_sending;
}

-- ## Without speech

-- The termination has received nothing, and its play list has this depth.
pub record HasNoSpeech (depth : ℕ) (s : TerminationMedia) : Type 0 where
  pub play : s.play ≡ record first_list { places = empty_places depth }
  pub frame : s.frame ≡ silence
  pub stats : s.stats ≡ but_received s.stats

-- Each termination's stored media are those of a termination that has received nothing, and its play list has the
-- record's depth.
abbrev pub IsQuiet : EngineState → Type 0
IsQuiet k = (n : ℕ) (r : Record) → record_at k.rooms n ≡ Some r
    → (s : TerminationMedia) × HasNoSpeech r.depth s
    × IsMediaOf k.config (media_at k.media r.slot) (frame_of_row k.sums r.slot) s

-- Each play list has the depth of its termination's record.
abbrev pub HaveDepths : Gateway → Type 0
HaveDepths w = (n : ℕ) (r : Record) (s : TerminationMedia) → record_at w.rooms n ≡ Some r
    → media_of w n ≡ Some s → depth_of s.play ≡ r.depth

-- ## Checkpoints

-- Both gateways have the same checkpoint: the same configuration, terminations and contexts. Each termination has sent
-- the same, and the last word on any two members of a context is the same.
pub record AgreeInCheckpoint (b w : Gateway) : Type 0 where
  pub config : b.config ≡ w.config
  pub rooms : b.rooms ≡ w.rooms
  pub numbers : map (λ s. s.number) b.media ≡ map (λ s. s.number) w.media
  pub sent : (n : ℕ) (s t : TerminationMedia) → media_of b n ≡ Some s → media_of w n ≡ Some t
      → sent_of b.config s ≡ sent_of w.config t
  pub hears : (talker listener : ℕ) → IsTrue (share_context w talker listener)
      → may_hear b.edits talker listener ≡ may_hear w.edits talker listener

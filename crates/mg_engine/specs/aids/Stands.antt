-- The gateways that the state of an engine represents.
use Rattle.std.specs.Prelude.{◌≡◌, ◌≢◌, ℕ, ℤ, ◌+◌, ◌*◌, ◌%◌, ◌^◌, List, map, Some, Result, Ok}
use Rattle.std.specs.Prelude.{Err, slice_index_or}
use Rattle.mg_words.specs.declared.error_number.ErrorNumber.{ErrorNumber}
use Rattle.mg_rooms.specs.declared.record.Record.{Record}
use Rattle.mg_rooms.specs.Registry as rooms
use Rattle.mg_rooms.specs.Registry.{record_at}
use Rattle.mg_flow.specs.declared.place.Place.{Place}
use Rattle.mg_flow.specs.aids.Table as flow
use Rattle.mg_engine.specs.declared.config.Config.{Config}
use Rattle.mg_engine.specs.Gateway.{Gateway, TerminationMedia, media_of}
use Rattle.mg_engine.specs.Flow.{may_hear}
use Rattle.mg_engine.specs.aids.Media as media
use Rattle.mg_engine.specs.aids.Media.{timestamp_before}
use Rattle.mg_engine.specs.aids.Place.{IsOnPlace}
use Rattle.mg_engine.specs.declared.share.Share.{Share}
use Rattle.mg_sums.specs.Sums as sums
use Rattle.mg_sums.specs.aids.Sums.{frame_of_row}

-- The state of an engine: its configuration, the terminations and contexts, the media of each slot, and the table of
-- flows. For the rows of slots, it has their frames and the rooms that they are joined to. For each room, it lists the
-- packets of the last tick whose payloads can be shared.
pub record EngineState : Type 0 where
  pub config : Config
  pub rooms : rooms.Registry
  pub media : List media.SlotMedia
  pub flows : List flow.RoomFlows
  pub sums : sums.SumsState
  pub shares : List (List Share)

-- The media of a slot.
abbrev pub media_at : List media.SlotMedia → ℕ → media.SlotMedia
media_at kept slot = slice_index_or kept slot media.idle

-- The stored media and frame match a termination. The timestamp and the sequence number count the termination's ticks
-- and packets, modulo 2^32 and 2^16.
pub record IsMediaOf (config : Config) (m : media.SlotMedia) (row : List ℤ)
    (s : TerminationMedia) : Type 0 where
  pub play : m.play ≡ s.play
  pub frame : row ≡ s.frame
  pub stats : m.stats ≡ s.stats
  pub timestamp : m.timestamp ≡ (timestamp_before config.timestamp + 160 * s.ticks) % 2 ^ 32
  pub sequence : m.sequence ≡ (config.sequence + s.packets) % 2 ^ 16
  pub is_sending : m.is_sending ≡ s.sent_last

-- Two different terminations are in the same context, at these places.
pub record ShareContext (w : rooms.Registry) (m n : ℕ) (a b : Record) (p q : Place) : Type 0 where
  pub first : IsOnPlace w m a p
  pub second : IsOnPlace w n b q
  pub same : a.context ≡ b.context
  pub apart : m ≢ n

-- The configuration, terminations and contexts equal the gateway's. Each termination's media are stored in its slot,
-- and its frame is stored in its slot's row. For any two members of a context, the table lets one hear the other if and
-- only if the last word allows it.
pub record StandsFor (kept : EngineState) (w : Gateway) : Type 0 where
  pub config : w.config ≡ kept.config
  pub rooms : w.rooms ≡ kept.rooms
  pub numbers : map (λ s. s.number) w.media ≡ map (λ r. r.number) kept.rooms.terminations
  pub media : (n : ℕ) (r : Record) (s : TerminationMedia) → record_at kept.rooms n ≡ Some r
      → media_of w n ≡ Some s
      → IsMediaOf kept.config (media_at kept.media r.slot) (frame_of_row kept.sums r.slot) s
  pub hears : (talker listener : ℕ) (t l : Record) (p q : Place)
      → ShareContext kept.rooms talker listener t l p q
      → flow.hears kept.flows p q ≡ may_hear w.edits talker listener

-- The result of the call is the outcome. If the call succeeded, the engine represents the gateway after the call.
abbrev pub IsOutcome : {A : Type 0} → EngineState → Result A ErrorNumber
    → Result (Gateway × A) ErrorNumber → Type 0
IsOutcome kept (Ok x) outcome = (w : Gateway) × (outcome ≡ Ok (w, x)) × StandsFor kept w
IsOutcome kept (Err e) outcome = outcome ≡ Err e

-- Properties of isolation, which follow from the definitions of flow, mix and packet.
use Rattle.std.specs.Prelude.{◌≡◌, ℕ, ℤ, ◌+◌, ◌<◌, ◌==◌, ◌&&◌, ◌||◌, not, Bool, true, false, List}
use Rattle.std.specs.Prelude.{◌∷◌, ◌++◌, map, slice_index, if◌then◌else◌}
use Rattle.std.specs.List.{list_all}
use Rattle.std.specs.Option.{option_map}
use Rattle.mg_g711.specs.Law.{byte_of}
use Rattle.mg_sdp.specs.declared.chosen.Chosen.{Chosen}
use Rattle.mg_words.specs.declared.association.Association.TheVariants.{Isolate}
use Rattle.mg_rooms.specs.declared.record.Record.{Record}
use Rattle.mg_engine.specs.Gateway.{Gateway, TerminationMedia, ContextEdit, Enter, Leave, Apply}
use Rattle.mg_engine.specs.Gateway.{frame_of, media_of, mode_of}
use Rattle.mg_engine.specs.Flow.{flow, mentions}
use Rattle.mg_engine.specs.Mix.{mix, is_loopback}
use Rattle.mg_engine.specs.Tick.{packet, packet_of}

-- No termination hears itself: its speech does not flow back to it.
abbrev pub NoneHearsItself : Type 0
NoneHearsItself = (w : Gateway) (n : ℕ) → flow w n n ≡ false

abbrev pub replayed : ℕ → List ℤ → TerminationMedia → TerminationMedia
replayed n frame s = if s.number == n then record s { frame = frame } else s

-- The gateway as it would be if this tick played another frame for the termination.
abbrev pub with_frame : Gateway → ℕ → List ℤ → Gateway
with_frame w n frame = record w { media = map (replayed n frame) w.media }

-- Whether a termination is sent its own speech, which happens only in Loopback.
abbrev pub hears_itself : Gateway → ℕ → Bool
hears_itself w n = is_loopback (mode_of w n)

-- Except in Loopback, no byte of a packet to a termination depends on the termination's own speech. By the definition
-- of flow, this speech does not flow back; the statement about packets is a consequence.
abbrev pub OwnSpeechChangesNoPacket : Type 0
OwnSpeechChangesNoPacket =
    (w : Gateway) (frame : List ℤ) (r : Record) → hears_itself w r.number ≡ false
    → packet_of (with_frame w r.number frame) r ≡ packet_of w r

-- ## Isolated terminations do not hear each other

-- Whether an edit keeps two terminations isolated: neither of them enters a context, and no triple mentions the two.
abbrev pub leaves_isolated : ℕ → ℕ → ContextEdit → Bool
leaves_isolated a b (Enter n) = not (a == n || b == n)
leaves_isolated a b (Leave n) = true
leaves_isolated a b (Apply first second association) = not (mentions first second a b)

-- The two terminations were isolated from each other, and all later edits keep them isolated.
pub record AreIsolated (w : Gateway) (a b : ℕ) : Type 0 where
  pub since : List ContextEdit
  pub first : List ℕ
  pub second : List ℕ
  pub before : List ContextEdit
  pub edits : w.edits ≡ since ++ Apply first second Isolate ∷ before
  pub isolated : mentions first second a b ≡ true
  pub left : list_all (leaves_isolated a b) since ≡ true

-- If two terminations are isolated, the speech of neither flows to the other.
abbrev pub IsolatedAreNotHeard : Type 0
IsolatedAreNotHeard =
    (w : Gateway) (a b : ℕ) → AreIsolated w a b → (flow w a b ≡ false) × (flow w b a ≡ false)

-- ## Unheard speech leaves no trace

-- The progress of a termination's packets: its number, its ticks, the packets that it has sent, and whether its last
-- tick sent a packet.
abbrev pub progress_of : TerminationMedia → ℕ × (ℕ × (ℕ × Bool))
progress_of s = (s.number, (s.ticks, (s.packets, s.sent_last)))

-- A packet depends only on the configuration, the terminations and contexts, all edits, the progress of the listener's
-- packets, and certain frames. These are the frames of the talkers whose speech flows to the listener or, in Loopback,
-- the listener's own frame.
abbrev pub PacketsDependOnHeard : Type 0
PacketsDependOnHeard =
    (a b : Gateway) (r : Record) → a.config ≡ b.config → a.rooms ≡ b.rooms → a.edits ≡ b.edits
    → option_map progress_of (media_of a r.number) ≡ option_map progress_of (media_of b r.number)
    → ((talker : ℕ) → flow a talker r.number ≡ true → frame_of a talker ≡ frame_of b talker)
    → (hears_itself a r.number ≡ true → frame_of a r.number ≡ frame_of b r.number)
    → packet_of a r ≡ packet_of b r

-- If a talker's speech does not flow to a listener, the listener is sent the same packet, byte for byte, whatever the
-- talker says. The exception is a termination in Loopback, which is sent its own speech.
abbrev pub UnheardChangesNoPacket : Type 0
UnheardChangesNoPacket =
    (w : Gateway) (talker : ℕ) (frame : List ℤ) (r : Record) → flow w talker r.number ≡ false
    → ((r.number == talker) && hears_itself w r.number) ≡ false
    → packet_of (with_frame w talker frame) r ≡ packet_of w r

-- ## The payload of a packet

-- After the 12 bytes of the header, a packet contains the encoding of each sample of the listener's mix.
abbrev pub PayloadsAreMixes : Type 0
PayloadsAreMixes =
    (w : Gateway) (r : Record) (to : Chosen) (s : TerminationMedia) (i : ℕ) → i < 160
    → slice_index (packet w r to s).bytes (12 + i) ≡ byte_of to.law (mix w r.number i)

-- Recordings: scripts that are written while a gateway handles events.
use Rattle.std.specs.Prelude.{◌≡◌, ◌≢◌, ℕ, ◌<◌, ◌≤◌, List, [], ◌∷◌, ◌++◌, length, flat_map}
use Rattle.std.specs.Prelude.{All, Some, true, false, codes, decimal}
use Rattle.hex.specs.Hex.{encode_lower}
use Rattle.mg_words.specs.declared.peer.Peer.{Peer}
use Rattle.mg_core.specs.declared.event.Event.{Event}
use Rattle.mg_core.specs.declared.event.Event.TheVariants.{Control, Media, Tick}
use Rattle.mg_core.specs.Peer.{peer_text}
use Rattle.mg_core.specs.Script.{events_of}
use Rattle.mg_lines.specs.Lines.{lines_of}

-- ## Lines

-- A peer, a space, a datagram's bytes in lower-case hexadecimal, and a line feed.
abbrev pub datagram_text : Peer → List ℕ → List ℕ
datagram_text source bytes =
    peer_text source ++ (codes " " ++ (encode_lower bytes ++ codes "\n"))

-- The line for an event.
abbrev pub event_line : Event → List ℕ
event_line (Control source bytes) = codes "control " ++ datagram_text source bytes
event_line (Media port source bytes) =
    codes "rtp " ++ (decimal port ++ (codes " " ++ datagram_text source bytes))
event_line Tick = codes "tick\n"

-- An entry of a recording: an event, or a comment.
pub data Entry : Type 0 where
  Happened : (event : Event) → Entry
  Noted : (text : List ℕ) → Entry

abbrev pub entry_line : Entry → List ℕ
entry_line (Happened event) = event_line event
entry_line (Noted text) = codes "# " ++ (text ++ codes "\n")

-- The text of a recording.
abbrev pub recording_of : List Entry → List ℕ
recording_of entries = flat_map entry_line entries

-- The events of a recording.
abbrev pub events_in : List Entry → List Event
events_in [] = []
events_in (Happened event ∷ entries) = event ∷ events_in entries
events_in (Noted text ∷ entries) = events_in entries

-- ## Recordings that can be read back

-- A datagram that can arrive. It comes from an IPv4 address and a 16-bit port, and is at most 65,535 bytes long.
pub record IsDatagram (source : Peer) (bytes : List ℕ) : Type 0 where
  pub four : length source.address ≡ 4
  pub parts : All (λ b. b < 256) source.address
  pub port : source.port < 65536
  pub length_is : length bytes ≤ 65535
  pub bytes_are : All (λ b. b < 256) bytes

-- The entry is an event that can arrive, or a one-line comment of at most 1,000 bytes.
abbrev pub IsRecorded : Entry → Type 0
IsRecorded (Happened (Control source bytes)) = IsDatagram source bytes
IsRecorded (Happened (Media port source bytes)) = (port < 65536) × IsDatagram source bytes
IsRecorded (Happened Tick) = Unit {0}
IsRecorded (Noted text) = (length text ≤ 1000) × All (λ b. b ≢ 10) text

-- A recording of such entries is a script of its events.
abbrev pub RecordingsAreRead : Type 0
RecordingsAreRead =
    (entries : List Entry) → All IsRecorded entries
    → events_of (lines_of true (recording_of entries)) ≡ Some (events_in entries)

-- Wherever a recording of such entries is truncated, its complete lines are a script of its first events.
abbrev pub CutRecordingsAreRead : Type 0
CutRecordingsAreRead =
    (entries : List Entry) (front rest : List ℕ) → All IsRecorded entries
    → recording_of entries ≡ front ++ rest
    → (first : List Entry) × (others : List Entry) × (entries ≡ first ++ others)
    × (events_of (lines_of false front) ≡ Some (events_in first))

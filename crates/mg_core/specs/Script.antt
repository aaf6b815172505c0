-- Scripts: lines of text for the events of a gateway. The format is this gateway's own.
use Rattle.std.specs.Prelude.{ℕ, Bool, true, false, ◌&&◌, ◌==◌, nat_le, nat_lt, List, []}
use Rattle.std.specs.Prelude.{◌∷◌, length, flat_map, Option, Some, None, Result, Ok}
use Rattle.std.specs.Prelude.{Err, codes, if◌then◌else◌}
use Rattle.std.specs.Str.{bytes_eq}
use Rattle.std.specs.Option.{option_map}
use Rattle.hex.specs.Hex.{decode_of}
use Rattle.hex.specs.declared.error.FromHexError.{FromHexError}
use Rattle.mg_words.specs.Cut.{cut}
use Rattle.mg_words.specs.Numbers.{port_of}
use Rattle.mg_words.specs.OptionSteps.{◌>>=◌}
use Rattle.mg_core.specs.declared.event.Event.{Event}
use Rattle.mg_core.specs.declared.event.Event.TheVariants.{Control, Media, Tick}
use Rattle.mg_core.specs.declared.script.Spelling.{Spelling}
use Rattle.mg_core.specs.declared.script.Spelling.TheVariants.{Text, Digits}
use Rattle.mg_core.specs.Peer.{peer_of}

-- Whether a byte is visible ASCII or a space.
abbrev pub is_plain : ℕ → Bool
is_plain b = nat_le 32 b && nat_le b 126

-- The byte that a backslash and this byte denote.
abbrev pub escaped_byte : ℕ → Option ℕ
escaped_byte b =
    if b == 110 then Some 10 else (if b == 114 then Some 13
    else (if b == 92 then Some 92 else None))

-- The bytes of text with escapes: `\n`, `\r` and `\\` are a line feed, a carriage return and a backslash. The flag says
-- whether a backslash precedes the text.
unfoldable pub unescaped : Bool → List ℕ → Option (List ℕ)
unescaped true [] = None
unescaped false [] = Some []
unescaped true (b ∷ bs) =
    escaped_byte b >>= λ byte. option_map (λ rest. byte ∷ rest) (unescaped false bs)
unescaped false (b ∷ bs) =
    if b == 92 then unescaped true bs
    else (if is_plain b then option_map (λ rest. b ∷ rest) (unescaped false bs) else None)

-- The escaped form of a byte.
abbrev pub escape_of : ℕ → List ℕ
escape_of b =
    if b == 10 then codes "\\n" else
    (if b == 13 then codes "\\r" else (if b == 92 then codes "\\\\" else b ∷ []))

abbrev pub escaped : List ℕ → List ℕ
escaped bytes = flat_map escape_of bytes

-- The bytes, unless decoding failed.
abbrev pub ok_of : Result (List ℕ) FromHexError → Option (List ℕ)
ok_of (Ok bytes) = Some bytes
ok_of (Err e) = None

-- The bytes of a datagram, which is at most 65,535 bytes long.
abbrev pub datagram : List ℕ → Option (List ℕ)
datagram bytes = if nat_le (length bytes) 65535 then Some bytes else None

-- The spelling that the first word of a line selects for the bytes of a control datagram, or `None` if the word selects
-- none.
unfoldable pub spelling_of : List ℕ → Option Spelling
spelling_of key =
    if bytes_eq key (codes "say") then Some Text
    else (if bytes_eq key (codes "control") then Some Digits else None)

-- The bytes of a line's last part: text with escapes, or hexadecimal digits in either case.
abbrev pub spelled_bytes : Option Spelling → List ℕ → Option (List ℕ)
spelled_bytes (Some Text) spelled = unescaped false spelled
spelled_bytes (Some Digits) spelled = ok_of (decode_of spelled)
spelled_bytes None spelled = None

abbrev pub bytes_of : List ℕ → List ℕ → Option (List ℕ)
bytes_of key spelled = spelled_bytes (spelling_of key) spelled

abbrev pub an_event : Event → Option (Option Event)
an_event e = Some (Some e)

-- The RTP datagram in text with three parts, separated by single spaces: a media port, a peer, and hexadecimal digits.
unfoldable pub rtp_of : List ℕ → Option (Option Event)
rtp_of parts = do
  first ← cut 32 parts
  port ← port_of first.0
  second ← cut 32 first.1
  source ← peer_of second.0
  bytes ← ok_of (decode_of second.1)
  bytes ← datagram bytes
  an_event (Media port source bytes)

-- The control datagram in the rest of a line after its first word: a peer, one space, and the bytes.
unfoldable pub control_of : List ℕ → List ℕ → Option (Option Event)
control_of key rest = do
  parts ← cut 32 rest
  source ← peer_of parts.0
  bytes ← bytes_of key parts.1
  bytes ← datagram bytes
  an_event (Control source bytes)

abbrev pub datagram_by : List ℕ → List ℕ → Option (Option Event)
datagram_by key rest = if bytes_eq key (codes "rtp") then rtp_of rest else control_of key rest

-- The datagram in a line: a first word, a space, and the parts that the word requires.
unfoldable pub datagram_of : List ℕ → Option (Option Event)
datagram_of line = do
  parts ← cut 32 line
  datagram_by parts.0 parts.1

-- Whether a line is empty or starts with `#`.
abbrev pub is_comment : List ℕ → Bool
is_comment [] = true
is_comment (b ∷ bs) = b == 35

-- The event of a line: `Some None` if the line has no event, and `None` if it is bad. A line is at
-- most 140,000 bytes long.
unfoldable pub event_of : List ℕ → Option (Option Event)
event_of line =
    if nat_lt 140000 (length line) then None
    else (if is_comment line then Some None
    else (if bytes_eq line (codes "tick") then an_event Tick
    else datagram_of line))

-- Adds this event, if there is one, to the front of the events.
abbrev pub then_all : Option Event → List Event → List Event
then_all None events = events
then_all (Some event) events = event ∷ events

-- The events of lines, in order, unless a line is bad.
unfoldable pub events_of : List (List ℕ) → Option (List Event)
events_of [] = Some []
events_of (line ∷ lines) = do
  event ← event_of line
  events ← events_of lines
  Some (then_all event events)

-- The line written for an event is parsed as that event.
use Rattle.std.proofs.Common.{◌≡◌, ℕ, zero, suc, ◌/◌, ◌%◌, ◌<◌, ◌≤◌, Bool, true, not, eqb, List, [], ◌∷◌, ◌++◌, length, slice_index, Some, None, All, refl, ap, ◌∙◌, length-append, arith, codes, decimal}
use Rattle.std.proofs.lemmas.Bool.{lt-ltb, le-ltb, le-leb, ne_eqb, and_parts, and_from, not_from_false}
use Rattle.std.proofs.lemmas.List.Elements.{All-head, All-tail}
use Rattle.std.proofs.lemmas.List.Folds.{list_all-append}
use Rattle.std.proofs.Math.Seq.{take-append_seam}
use Rattle.std.specs.List.{list_all}
use Rattle.hex.specs.Hex.{IsBytes, decode_of, encode_lower, encode_with, lower_digits}
use Rattle.hex.proofs.HexLemmas.{decode_of-encode_lower, length-encode_with}
use Rattle.mg_words.specs.Address.{address_of, address_text}
use Rattle.mg_words.specs.Cut.{cut}
use Rattle.mg_sdp.proofs.ReadBackLemmas.{address_of-dotted, all_append, drop_seam, position_seam}
use Rattle.mg_sdp.proofs.DecimalLemmas.{port_of-decimal, decimal_passes}
use Rattle.mg_words.proofs.DecimalLemmas.{byte_short, port_short}
use Rattle.mg_words.specs.declared.peer.Peer.{Peer}
use Rattle.mg_core.specs.declared.event.Event.{Event}
use Rattle.mg_core.specs.declared.event.Event.TheVariants.{Control, Media, Tick}
use Rattle.mg_core.specs.Peer.{peer_of, peer_text}
use Rattle.mg_core.specs.Script.{ok_of, spelling_of, control_of, rtp_of, datagram_of, event_of}
use Rattle.mg_core.specs.Recording.{Happened, IsDatagram, IsRecorded}

-- ## Tests that all bytes pass

-- If all bytes of some text and 0 pass a test, the byte at any index passes it. A byte after the end counts as 0.
pub at_passes : (p : ℕ → Bool) (xs : List ℕ) (i : ℕ) → p 0 ≡ true → list_all p xs ≡ true → p (slice_index xs i) ≡ true
at_passes p [] i z h = z
at_passes p (x ∷ xs) zero z h = (and_parts (p x) (list_all p xs) h).0
at_passes p (x ∷ xs) (suc i) z h = at_passes p xs i z (and_parts (p x) (list_all p xs) h).1

-- Whether `b` is a byte other than `byte`.
abbrev pub is_not : ℕ → ℕ → Bool
is_not byte b = not (eqb b byte)

-- The bytes of all lines pass the test: digits, separators and keywords. So does 0, the value that is read after the
-- end of a line.
pub record Passes (p : ℕ → Bool) : Type 0 where
  pub zero_passes : p 0 ≡ true
  pub decimals : (c : ℕ) → 48 ≤ c → c ≤ 57 → p c ≡ true
  pub digits : list_all p lower_digits ≡ true
  pub dot : p 46 ≡ true
  pub colon : p 58 ≡ true
  pub space : p 32 ≡ true
  pub control : list_all p (codes "control ") ≡ true
  pub rtp : list_all p (codes "rtp ") ≡ true
  pub tick : list_all p (codes "tick") ≡ true

pub decimals_above : (byte : ℕ) → byte < 48 → (c : ℕ) → 48 ≤ c → c ≤ 57 → is_not byte c ≡ true
decimals_above byte small c low high = not_from_false (eqb c byte) (ne_eqb c byte (λ e. absurd (omega arith)))

decimals_below : (byte : ℕ) → 57 < byte → (c : ℕ) → 48 ≤ c → c ≤ 57 → is_not byte c ≡ true
decimals_below byte great c low high = not_from_false (eqb c byte) (ne_eqb c byte (λ e. absurd (omega arith)))

pub no_feed : Passes (is_not 10)
no_feed = record {
  zero_passes = refl;
  decimals = decimals_above 10 (omega arith);
  digits = refl;
  dot = refl;
  colon = refl;
  space = refl;
  control = refl;
  rtp = refl;
  tick = refl;
}

pub no_return : Passes (is_not 13)
no_return = record {
  zero_passes = refl;
  decimals = decimals_above 13 (omega arith);
  digits = refl;
  dot = refl;
  colon = refl;
  space = refl;
  control = refl;
  rtp = refl;
  tick = refl;
}

-- Hexadecimal digits pass the test.
digits_pass : (p : ℕ → Bool) → p 0 ≡ true → list_all p lower_digits ≡ true → (bytes : List ℕ) →
    list_all p (encode_lower bytes) ≡ true
unfolding encode_with
digits_pass p z h [] = refl
digits_pass p z h (b ∷ bs) =
    let high = at_passes p lower_digits (b / 16) z h in
    let low = at_passes p lower_digits (b % 16) z h in
    rw (high, low, digits_pass p z h bs) refl

-- The bytes of an address pass the test.
address_passes : (p : ℕ → Bool) → ((c : ℕ) → 48 ≤ c → c ≤ 57 → p c ≡ true) → p 46 ≡ true → (address : List ℕ) →
    IsBytes address → list_all p (address_text address) ≡ true
address_passes p h dot address small =
    let at : (i : ℕ) → list_all p (decimal (slice_index address i)) ≡ true =
    λ i. decimal_passes p h (slice_index address i) (omega (arith, small i)) in
    simp (list_all-append, at 0, at 1, at 2, at 3, dot)

-- The bytes of a peer pass the test.
peer_passes : (p : ℕ → Bool) → ((c : ℕ) → 48 ≤ c → c ≤ 57 → p c ≡ true) → p 46 ≡ true → p 58 ≡ true → (source : Peer)
    → IsBytes source.address → source.port < 65536 → list_all p (peer_text source) ≡ true
peer_passes p h dot colon source small port =
    all_append p (address_text source.address) (58 ∷ decimal source.port)
    (address_passes p h dot source.address small)
    (and_from (p 58) (list_all p (decimal source.port)) colon (decimal_passes p h source.port (omega arith)))

-- ## Splitting text at a byte

-- `cut` splits text at the first occurrence of the byte.
pub cut_seam : (byte : ℕ) (xs ys : List ℕ) → eqb byte byte ≡ true → list_all (is_not byte) xs ≡ true →
    cut byte (xs ++ byte ∷ ys) ≡ Some (xs, ys)
cut_seam byte xs ys same h =
    let within : length xs < length (xs ++ byte ∷ ys) = omega (arith, length-append xs (byte ∷ ys)) in
    rw (
      position_seam (λ b. eqb b byte) xs byte ys h same,
      lt-ltb (length xs) (length (xs ++ byte ∷ ys)) within,
      take-append_seam xs (byte ∷ ys),
      drop_seam xs byte ys,
    ) refl

-- ## Peers

four_parts : (address : List ℕ) → length address ≡ 4 →
    slice_index address 0 ∷ slice_index address 1 ∷ slice_index address 2 ∷ slice_index address 3 ∷ [] ≡ address
four_parts [] four = absurd (omega arith)
four_parts (a ∷ []) four = absurd (omega arith)
four_parts (a ∷ b ∷ []) four = absurd (omega arith)
four_parts (a ∷ b ∷ c ∷ []) four = absurd (omega arith)
four_parts (a ∷ b ∷ c ∷ d ∷ []) four = refl
four_parts (a ∷ b ∷ c ∷ d ∷ e ∷ more) four = absurd (omega arith)

address_read : (address : List ℕ) → length address ≡ 4 → IsBytes address →
    address_of (address_text address) ≡ Some address
address_read address four small =
    address_of-dotted (slice_index address 0) (slice_index address 1) (slice_index address 2) (slice_index address 3)
    (small 0) (small 1) (small 2) (small 3) ∙ ap Some (four_parts address four)

pub peer_read : (source : Peer) → length source.address ≡ 4 → IsBytes source.address → source.port < 65536 →
    peer_of (peer_text source) ≡ Some source
unfolding peer_of
peer_read source four small port =
    let plain = address_passes (is_not 58) (decimals_below 58 (omega arith)) refl source.address small in
    rw (
      cut_seam 58 (address_text source.address) (decimal source.port) refl plain,
      address_read source.address four small,
      port_of-decimal source.port port,
    ) refl

peer_short : (source : Peer) → IsBytes source.address → source.port < 65536 → length (peer_text source) ≤ 21
peer_short source small port =
    let at : (i : ℕ) → length (decimal (slice_index source.address i)) ≤ 3 =
    λ i. byte_short (slice_index source.address i) (small i) in
    simp length-append (omega (arith, at 0, at 1, at 2, at 3, port_short source.port port))

-- ## Datagrams

pub bytes_from_all : (xs : List ℕ) → All (λ b. b < 256) xs → IsBytes xs
bytes_from_all [] h i = omega arith
bytes_from_all (x ∷ xs) h zero = All-head (λ b. b < 256) x xs h
bytes_from_all (x ∷ xs) h (suc i) = bytes_from_all xs (All-tail (λ b. b < 256) x xs h) i

-- A peer, a space and the hexadecimal digits of a datagram, as a part of a line.
abbrev pub datagram_part : Peer → List ℕ → List ℕ
datagram_part source bytes = peer_text source ++ (32 ∷ encode_lower bytes)

datagram_passes : (p : ℕ → Bool) → Passes p → (source : Peer) (bytes : List ℕ) → IsDatagram source bytes →
    list_all p (datagram_part source bytes) ≡ true
datagram_passes p t source bytes d =
    let small = bytes_from_all source.address d.parts in
    all_append p (peer_text source) (32 ∷ encode_lower bytes)
    (peer_passes p t.decimals t.dot t.colon source small d.port)
    (and_from (p 32) (list_all p (encode_lower bytes)) t.space (digits_pass p t.zero_passes t.digits bytes))

datagram_short : (source : Peer) (bytes : List ℕ) → IsDatagram source bytes →
    length (datagram_part source bytes) ≤ 131092
datagram_short source bytes d =
    let peer = peer_short source (bytes_from_all source.address d.parts) d.port in
    omega (
      arith,
      length-append (peer_text source) (32 ∷ encode_lower bytes),
      length-encode_with lower_digits bytes,
      peer,
      d.length_is,
    )

digits_read : (bytes : List ℕ) → All (λ b. b < 256) bytes → ok_of (decode_of (encode_lower bytes)) ≡ Some bytes
digits_read bytes h = ap ok_of (decode_of-encode_lower bytes (bytes_from_all bytes h))

peer_cut : (source : Peer) (bytes : List ℕ) → IsDatagram source bytes →
    cut 32 (datagram_part source bytes) ≡ Some (peer_text source, encode_lower bytes)
peer_cut source bytes d =
    let small = bytes_from_all source.address d.parts in
    cut_seam 32 (peer_text source) (encode_lower bytes) refl
    (peer_passes (is_not 32) (decimals_above 32 (omega arith)) refl refl source small d.port)

source_read : (source : Peer) (bytes : List ℕ) → IsDatagram source bytes → peer_of (peer_text source) ≡ Some source
source_read source bytes d = peer_read source d.four (bytes_from_all source.address d.parts) d.port

control_read : (source : Peer) (bytes : List ℕ) → IsDatagram source bytes →
    control_of (codes "control") (datagram_part source bytes) ≡ Some (Some (Control source bytes))
unfolding control_of spelling_of
control_read source bytes d =
    rw (
      peer_cut source bytes d,
      source_read source bytes d,
      digits_read bytes d.bytes_are,
      le-leb (length bytes) 65535 d.length_is,
    ) refl

rtp_read : (port : ℕ) (source : Peer) (bytes : List ℕ) → port < 65536 → IsDatagram source bytes →
    rtp_of (decimal port ++ (32 ∷ datagram_part source bytes)) ≡ Some (Some (Media port source bytes))
unfolding rtp_of
rtp_read port source bytes h d =
    let plain = decimal_passes (is_not 32) (decimals_above 32 (omega arith)) port (omega arith) in
    rw (
      cut_seam 32 (decimal port) (datagram_part source bytes) refl plain,
      port_of-decimal port h,
      peer_cut source bytes d,
      source_read source bytes d,
      digits_read bytes d.bytes_are,
      le-leb (length bytes) 65535 d.length_is,
    ) refl

-- ## Events

-- The line for an event, without its line feed.
abbrev pub event_text : Event → List ℕ
event_text (Control source bytes) = codes "control " ++ datagram_part source bytes
event_text (Media port source bytes) = codes "rtp " ++ (decimal port ++ (32 ∷ datagram_part source bytes))
event_text Tick = codes "tick"

pub event_passes : (p : ℕ → Bool) → Passes p → (event : Event) → IsRecorded (Happened event) →
    list_all p (event_text event) ≡ true
event_passes p t (Control source bytes) d =
    all_append p (codes "control ") (datagram_part source bytes) t.control (datagram_passes p t source bytes d)
event_passes p t (Media port source bytes) d =
    all_append p (codes "rtp ") (decimal port ++ (32 ∷ datagram_part source bytes)) t.rtp
    (all_append p (decimal port) (32 ∷ datagram_part source bytes) (decimal_passes p t.decimals port (omega arith))
    (and_from (p 32) (list_all p (datagram_part source bytes)) t.space (datagram_passes p t source bytes d.1)))
event_passes p t Tick d = t.tick

control_line_read : (source : Peer) (bytes : List ℕ) → IsDatagram source bytes →
    event_of (codes "control " ++ datagram_part source bytes) ≡ Some (Some (Control source bytes))
unfolding event_of datagram_of
control_line_read source bytes d =
    let line : List ℕ = codes "control " ++ datagram_part source bytes in
    let short : length line ≤ 140000 = omega (arith, datagram_short source bytes d) in
    rw (
      le-ltb 140000 (length line) short,
      cut_seam 32 (codes "control") (datagram_part source bytes) refl refl,
      control_read source bytes d,
    ) refl

rtp_line_read : (port : ℕ) (source : Peer) (bytes : List ℕ) → port < 65536 → IsDatagram source bytes →
    event_of (codes "rtp " ++ (decimal port ++ (32 ∷ datagram_part source bytes))) ≡
    Some (Some (Media port source bytes))
unfolding event_of datagram_of
rtp_line_read port source bytes h d =
    let rest : List ℕ = decimal port ++ (32 ∷ datagram_part source bytes) in
    let line : List ℕ = codes "rtp " ++ rest in
    let short : length line ≤ 140000 =
    omega (
      arith,
      length-append (decimal port) (32 ∷ datagram_part source bytes),
      port_short port h,
      datagram_short source bytes d,
    ) in
    rw (
      le-ltb 140000 (length line) short,
      cut_seam 32 (codes "rtp") rest refl refl,
      rtp_read port source bytes h d,
    ) refl

pub tick_read : event_of (codes "tick") ≡ Some (Some Tick)
unfolding event_of
tick_read = refl

pub event_read : (event : Event) → IsRecorded (Happened event) → event_of (event_text event) ≡ Some (Some event)
event_read (Control source bytes) d = control_line_read source bytes d
event_read (Media port source bytes) d = rtp_line_read port source bytes d.0 d.1
event_read Tick d = tick_read

-- A line that begins with `#` is a comment, unless it is too long.
pub comment_read : (rest : List ℕ) → length rest < 140000 → event_of (35 ∷ rest) ≡ Some None
unfolding event_of
comment_read rest short = rw (le-ltb 140000 (length (35 ∷ rest)) (omega arith)) refl

-- Bytes are at most one packet or have at most one fault, but not both.
use Rattle.std.proofs.Common.{◌≡◌, ℕ, ◌*◌, ◌/◌, ◌^◌, ◌<◌, ◌≤◌, Bool, true, false, List, [], ◌++◌, length, get_or, take, drop, Result, Ok, Err, refl, sym, ap, subst, ◌∙◌, append_assoc, arith, inl, inr}
use Rattle.std.proofs.lemmas.List.{length-append}
use Rattle.byteorder.specs.Endian.{big_bytes, big_number}
use Rattle.byteorder.specs.Numbers.{big_number-reads_back}
use Rattle.std.specs.Prelude.{◌↔◌, IfOk}
use Rattle.mg_rtp.specs.declared.header.Header.{Header}
use Rattle.mg_rtp.specs.declared.packet.Packet.{Packet}
use Rattle.mg_rtp.specs.declared.rtp_fault.RtpFault.{RtpFault}
use Rattle.mg_rtp.specs.declared.rtp_fault.RtpFault.TheVariants.{Short, Version, Extension, Padding}
use Rattle.mg_rtp.specs.Header.{IsHeader, Layout, bit, first_byte, second_byte, header_bytes}
use Rattle.mg_rtp.specs.Packet.{Begins, AreSources, IsExtension, IsPadding, IsPacket}
use Rattle.mg_rtp.specs.Reading.{IsPacketReading}
use Rattle.mg_rtp.specs.aids.Read.{reading_of}
use Rattle.mg_rtp.specs.RtpFault.{EndsInExtension, HasBadPadding, IsFault}
use Rattle.mg_rtp.proofs.FaultParts.{LacksSources, LacksExtension, LacksPadding, IsFaultByPart, by_part}
use Rattle.mg_rtp.proofs.Parts.{begins_with}
use Rattle.mg_rtp.proofs.Joined.{same_behind, extension_once, extension_ends, padding_once, padding_counts}

-- ---- headers

-- A bit is 0 or 1.
bit_le : (b : Bool) → bit b ≤ 1
bit_le false = omega arith
bit_le true = omega arith

-- Flags with the same bit are equal.
bit_once : (a b : Bool) → bit a ≡ bit b → a ≡ b
bit_once false false e = refl
bit_once false true e = absurd (omega (arith, e))
bit_once true false e = absurd (omega (arith, e))
bit_once true true e = refl

-- Layouts with the same first byte are equal, if each of them counts fewer than 16 sources.
layout_once : (l m : Layout) → l.source_count < 16 → m.source_count < 16 → first_byte l ≡ first_byte m → l ≡ m
layout_once l m p q e =
    let la = bit_le l.is_padded in
    let ma = bit_le m.is_padded in
    let lb = bit_le l.is_extended in
    let mb = bit_le m.is_extended in
    let padded : l.is_padded ≡ m.is_padded = bit_once _ _ (omega arith) in
    let extended : l.is_extended ≡ m.is_extended = bit_once _ _ (omega arith) in
    let count : l.source_count ≡ m.source_count = omega arith in
    let make : Bool → Bool → ℕ → Layout = λ a b n. record { is_padded = a; is_extended = b; source_count = n } in
    let made : make l.is_padded l.is_extended l.source_count ≡ make m.is_padded m.is_extended m.source_count =
    rw (padded, extended, count) refl in
    made

-- Numbers with the same n bytes are equal, if they fit in n bytes.
number_once : (n x y : ℕ) → x < 256 ^ n → y < 256 ^ n → big_bytes n x ≡ big_bytes n y → x ≡ y
number_once n x y p q e =
    sym (big_number-reads_back n x [] p) ∙ ap (λ (bytes : List ℕ). big_number n (bytes ++ [])) e ∙
    big_number-reads_back n y [] q

-- Headers with the same bytes are equal, if their fields fit in their bits.
header_once : (h k : Header) → IsHeader h → IsHeader k → second_byte h ≡ second_byte k
    → big_bytes 2 h.sequence ≡ big_bytes 2 k.sequence → big_bytes 4 h.timestamp ≡ big_bytes 4 k.timestamp →
    big_bytes 4 h.ssrc ≡ big_bytes 4 k.ssrc → h ≡ k
header_once h k p q second a b c =
    let hm = bit_le h.marker in
    let km = bit_le k.marker in
    let marker : h.marker ≡ k.marker = bit_once _ _ (omega arith) in
    let payload_type : h.payload_type ≡ k.payload_type = omega arith in
    let sequence = number_once 2 h.sequence k.sequence p.sequence q.sequence a in
    let timestamp = number_once 4 h.timestamp k.timestamp p.timestamp q.timestamp b in
    let ssrc = number_once 4 h.ssrc k.ssrc p.ssrc q.ssrc c in
    let make : Bool → ℕ → ℕ → ℕ → ℕ → Header =
    λ m t s u v. record { marker = m; payload_type = t; sequence = s; timestamp = u; ssrc = v } in
    let made : make h.marker h.payload_type h.sequence h.timestamp h.ssrc ≡
    make k.marker k.payload_type k.sequence k.timestamp k.ssrc =
    rw (marker, payload_type, sequence, timestamp, ssrc) refl in
    made

-- Bytes start with at most one header, and so the rest is unique too.
pub begins_once : (bytes : List ℕ) (l m : Layout) (h k : Header) (r s : List ℕ) → Begins bytes l h r →
    Begins bytes m k s → (l ≡ m) × (h ≡ k) × (r ≡ s)
begins_once bytes l m h k r s a b =
    let joined : header_bytes l h ++ r ≡ header_bytes m k ++ s = sym a.joined ∙ b.joined in
    let first : first_byte l ≡ first_byte m = ap (λ (x : List ℕ). get_or x 0 0) joined in
    let second : second_byte h ≡ second_byte k = ap (λ (x : List ℕ). get_or x 1 0) joined in
    let sequence : big_bytes 2 h.sequence ≡ big_bytes 2 k.sequence = ap (λ (x : List ℕ). take 2 (drop 2 x)) joined in
    let timestamp : big_bytes 4 h.timestamp ≡ big_bytes 4 k.timestamp = ap (λ (x : List ℕ). take 4 (drop 4 x)) joined in
    let ssrc : big_bytes 4 h.ssrc ≡ big_bytes 4 k.ssrc = ap (λ (x : List ℕ). take 4 (drop 8 x)) joined in
    let rest : r ≡ s = ap (λ (x : List ℕ). drop 12 x) joined in (
      layout_once l m a.few_sources b.few_sources first,
      header_once h k a.in_range b.in_range second sequence timestamp ssrc,
      rest,
    )

-- ---- packets

-- Bytes are at most one packet.
pub packet_once : (bytes : List ℕ) (h k : Header) (p q : List ℕ) → IsPacket bytes h p → IsPacket bytes k q → (h ≡ k) ×
    (p ≡ q)
packet_once bytes h k p q a b =
    let front = begins_once bytes a.layout b.layout h k _ _ a.begins b.begins in
    let counts = ap (λ (l : Layout). l.source_count) front.0 in
    let extended : IsExtension a.layout.is_extended b.extension =
    subst (λ (l : Layout). IsExtension l.is_extended b.extension) (sym front.0) b.is_extension in
    let padded : IsPadding a.layout.is_padded b.padding =
    subst (λ (l : Layout). IsPadding l.is_padded b.padding) (sym front.0) b.is_padding in
    let rests : a.sources ++ (a.extension ++ (p ++ a.padding)) ≡ b.sources ++ (b.extension ++ (q ++ b.padding)) =
    simp append_assoc at front.2 in
    let behind_sources = same_behind a.sources b.sources _ _
    (a.are_sources ∙ ap (λ n. 4 * n) counts ∙ sym b.are_sources) rests in
    let behind_extension = extension_once a.layout.is_extended a.extension b.extension _ _ a.is_extension extended
    behind_sources in
    (front.1, padding_once a.layout.is_padded p q a.padding b.padding a.is_padding padded behind_extension)

-- ---- faults

-- Bytes that start with a header are at least twelve bytes long.
twelve_at_least : (bytes : List ℕ) (l : Layout) (h : Header) (rest : List ℕ) → Begins bytes l h rest → 12 ≤ length bytes
twelve_at_least bytes l h rest b = omega (arith, ap length b.joined)

-- The version of bytes that start with a header is 2.
version_is_2 : (bytes : List ℕ) (l : Layout) (h : Header) (rest : List ℕ) → Begins bytes l h rest →
    get_or bytes 0 0 / 64 ≡ 2
version_is_2 bytes l h rest b =
    let padded = bit_le l.is_padded in
    let extended = bit_le l.is_extended in
    let few = b.few_sources in
    let first : get_or bytes 0 0 ≡ first_byte l = ap (λ (x : List ℕ). get_or x 0 0) b.joined in
    omega arith

-- Bytes that hold all sources do not end within the sources.
enough_sources : (bytes : List ℕ) (a : LacksSources bytes) (l : Layout) (h : Header) (sources rest : List ℕ) →
    Begins bytes l h (sources ++ rest) → AreSources l.source_count sources → ⊥
enough_sources bytes a l h sources rest b are =
    let front = begins_once bytes a.layout l a.header h a.rest (sources ++ rest) a.begins b in
    let counts = ap (λ (l : Layout). l.source_count) front.0 in
    omega (arith, a.few, ap length front.2, length-append sources rest, are, counts)

-- Bytes that hold the whole extension do not end within it.
whole_extension : (bytes : List ℕ) (a : LacksExtension bytes) (l : Layout) (h : Header)
    (sources extension rest : List ℕ) → Begins bytes l h (sources ++ (extension ++ rest)) →
    AreSources l.source_count sources → IsExtension l.is_extended extension → ⊥
whole_extension bytes a l h sources extension rest b are is =
    let front = begins_once bytes a.layout l a.header h (a.sources ++ a.rest) _ a.begins b in
    let counts = ap (λ (l : Layout). l.source_count) front.0 in
    let behind : a.rest ≡ extension ++ rest =
    same_behind a.sources sources _ _ (a.are_sources ∙ ap (λ n. 4 * n) counts ∙ sym are) front.2 in
    let extended : l.is_extended ≡ true = sym (ap (λ (l : Layout). l.is_extended) front.0) ∙ a.is_extended in
    extension_ends extension rest (subst (λ (x : Bool). IsExtension x extension) extended is)
    (subst EndsInExtension behind a.ends)

-- The padding of a packet is valid.
whole_padding : (bytes : List ℕ) (a : LacksPadding bytes) (h : Header) (p : List ℕ) → IsPacket bytes h p → ⊥
whole_padding bytes a h p b =
    let front = begins_once bytes a.layout b.layout a.header h _ _ a.begins b.begins in
    let counts = ap (λ (l : Layout). l.source_count) front.0 in
    let extended : IsExtension a.layout.is_extended b.extension =
    subst (λ (l : Layout). IsExtension l.is_extended b.extension) (sym front.0) b.is_extension in
    let padded : b.layout.is_padded ≡ true = sym (ap (λ (l : Layout). l.is_padded) front.0) ∙ a.is_padded in
    let rests : a.sources ++ (a.extension ++ a.rest) ≡ b.sources ++ (b.extension ++ (p ++ b.padding)) =
    simp append_assoc at front.2 in
    let behind_sources = same_behind a.sources b.sources _ _
    (a.are_sources ∙ ap (λ n. 4 * n) counts ∙ sym b.are_sources) rests in
    let behind : a.rest ≡ p ++ b.padding = extension_once a.layout.is_extended a.extension b.extension _ _
    a.is_extension extended behind_sources in
    padding_counts p b.padding (subst (λ (x : Bool). IsPadding x b.padding) padded b.is_padding)
    (subst HasBadPadding behind a.bad)

-- Bytes that hold the header and all sources do not have the fault `Short`.
no_short : (bytes : List ℕ) (l : Layout) (h : Header) (sources rest : List ℕ) → Begins bytes l h (sources ++ rest) →
    AreSources l.source_count sources → IsFaultByPart bytes Short → ⊥
no_short bytes l h sources rest b are (inl few) = omega (arith, few, twelve_at_least bytes l h _ b)
no_short bytes l h sources rest b are (inr a) = enough_sources bytes a l h sources rest b are

-- Bytes that start with a header do not have the fault `Version`.
no_version : (bytes : List ℕ) (l : Layout) (h : Header) (rest : List ℕ) → Begins bytes l h rest →
    IsFaultByPart bytes Version → ⊥
no_version bytes l h rest b a = a.1 (version_is_2 bytes l h rest b)

-- Bytes do not have both faults `Short` and `Version`.
short_not_version : (bytes : List ℕ) → IsFaultByPart bytes Short → IsFaultByPart bytes Version → ⊥
short_not_version bytes (inl few) b = omega (arith, few, b.0)
short_not_version bytes (inr a) b = no_version bytes a.layout a.header a.rest a.begins b

-- Bytes have at most one fault.
fault_by_part_once : (bytes : List ℕ) (d e : RtpFault) → IsFaultByPart bytes d → IsFaultByPart bytes e → d ≡ e
fault_by_part_once bytes Short Short a b = refl
fault_by_part_once bytes Short Version a b = absurd (short_not_version bytes a b)
fault_by_part_once bytes Short Extension a b = absurd
    (no_short bytes b.layout b.header b.sources b.rest b.begins b.are_sources a)
fault_by_part_once bytes Short Padding a b =
    absurd (no_short bytes b.layout b.header b.sources (b.extension ++ b.rest)
    (begins_with bytes b.layout b.header _ _ (simp append_assoc) b.begins) b.are_sources a)
fault_by_part_once bytes Version Short a b = absurd (short_not_version bytes b a)
fault_by_part_once bytes Version Version a b = refl
fault_by_part_once bytes Version Extension a b = absurd (no_version bytes b.layout b.header _ b.begins a)
fault_by_part_once bytes Version Padding a b = absurd (no_version bytes b.layout b.header _ b.begins a)
fault_by_part_once bytes Extension Short a b = absurd
    (no_short bytes a.layout a.header a.sources a.rest a.begins a.are_sources b)
fault_by_part_once bytes Extension Version a b = absurd (no_version bytes a.layout a.header _ a.begins b)
fault_by_part_once bytes Extension Extension a b = refl
fault_by_part_once bytes Extension Padding a b =
    absurd (whole_extension bytes a b.layout b.header b.sources b.extension b.rest
    (begins_with bytes b.layout b.header _ _ (simp append_assoc) b.begins) b.are_sources b.is_extension)
fault_by_part_once bytes Padding Short a b =
    absurd (no_short bytes a.layout a.header a.sources (a.extension ++ a.rest)
    (begins_with bytes a.layout a.header _ _ (simp append_assoc) a.begins) a.are_sources b)
fault_by_part_once bytes Padding Version a b = absurd (no_version bytes a.layout a.header _ a.begins b)
fault_by_part_once bytes Padding Extension a b =
    absurd (whole_extension bytes b a.layout a.header a.sources a.extension a.rest
    (begins_with bytes a.layout a.header _ _ (simp append_assoc) a.begins) a.are_sources a.is_extension)
fault_by_part_once bytes Padding Padding a b = refl

-- A packet has no fault.
no_fault_by_part : (bytes : List ℕ) (h : Header) (p : List ℕ) (e : RtpFault) → IsPacket bytes h p → IsFaultByPart bytes e → ⊥
no_fault_by_part bytes h p Short a b =
    no_short bytes a.layout h a.sources (a.extension ++ (p ++ a.padding))
    (begins_with bytes a.layout h _ _ (simp append_assoc) a.begins) a.are_sources b
no_fault_by_part bytes h p Version a b = no_version bytes a.layout h _ a.begins b
no_fault_by_part bytes h p Extension a b =
    whole_extension bytes b a.layout h a.sources a.extension (p ++ a.padding)
    (begins_with bytes a.layout h _ _ (simp append_assoc) a.begins) a.are_sources a.is_extension
no_fault_by_part bytes h p Padding a b = whole_padding bytes b h p a

pub fault_once : (bytes : List ℕ) (d e : RtpFault) → IsFault bytes d → IsFault bytes e → d ≡ e
fault_once bytes d e a b = fault_by_part_once bytes d e (by_part bytes d a) (by_part bytes e b)

pub no_fault : (bytes : List ℕ) (h : Header) (p : List ℕ) (e : RtpFault) → IsPacket bytes h p → IsFault bytes e → ⊥
no_fault bytes h p e a b = no_fault_by_part bytes h p e a (by_part bytes e b)

-- The result of `read` is the reading of the bytes.
pub is_reading : (bytes : List ℕ) (r : Result Packet RtpFault) →
    IfOk r (λ packet. IsPacket bytes packet.header packet.payload.now)
    → ((f : RtpFault) → (r ≡ Err f) ↔ IsFault bytes f) → IsPacketReading bytes (reading_of r)
is_reading bytes (Ok packet) found fault = found
is_reading bytes (Err f) found fault = (fault f).0 refl

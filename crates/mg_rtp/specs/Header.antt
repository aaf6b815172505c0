-- The fixed header of a packet (RFC 3550, section 5.1).
use Rattle.std.specs.Prelude.{ℕ, ◌+◌, ◌*◌, ◌^◌, ◌<◌, Bool, true, false, List, ◌∷◌, ◌++◌}
use Rattle.byteorder.specs.Endian.{big_bytes}
use Rattle.mg_rtp.specs.declared.header.Header.{Header}

-- Each field of the header fits in its bits.
pub record IsHeader (h : Header) : Type 0 where
  pub payload_type : h.payload_type < 2 ^ 7
  pub sequence : h.sequence < 2 ^ 16
  pub timestamp : h.timestamp < 2 ^ 32
  pub ssrc : h.ssrc < 2 ^ 32

-- The optional parts of a packet: padding, extension and contributing sources.
pub record Layout : Type 0 where
  pub is_padded : Bool
  pub is_extended : Bool
  pub source_count : ℕ

-- The layout of a packet without optional parts.
abbrev pub plain : Layout
plain = record { is_padded = false; is_extended = false; source_count = 0 }

-- A flag as a bit, 0 or 1.
abbrev pub bit : Bool → ℕ
bit false = 0
bit true = 1

-- The first byte: the version 2 in two bits, the padding bit, the extension bit, and the count of contributing sources
-- in four bits.
abbrev pub first_byte : Layout → ℕ
first_byte l = 2 * 64 + bit l.is_padded * 32 + bit l.is_extended * 16 + l.source_count

-- The second byte: the marker in one bit, the payload type in seven bits.
abbrev pub second_byte : Header → ℕ
second_byte h = bit h.marker * 128 + h.payload_type

-- The eleven bytes after the first byte, with numbers in big-endian order.
abbrev pub field_bytes : Header → List ℕ
field_bytes h =
    second_byte h ∷ big_bytes 2 h.sequence ++ big_bytes 4 h.timestamp ++ big_bytes 4 h.ssrc

-- All twelve bytes of the header.
abbrev pub header_bytes : Layout → Header → List ℕ
header_bytes l h = first_byte l ∷ field_bytes h

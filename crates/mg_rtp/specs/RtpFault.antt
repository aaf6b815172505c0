-- Why bytes are not a packet. The faults and their order are this project's own. A fault names the
-- first part that violates section 5.1 of RFC 3550.
use Rattle.std.specs.Prelude.{◌≡◌, ◌≢◌, ℕ, ◌+◌, ◌-◌, ◌*◌, ◌/◌, ◌<◌, ◌≤◌, IsTrue, List, [], ◌++◌}
use Rattle.std.specs.Prelude.{length, drop, slice_index, codes, ◌⊎◌}
use Rattle.byteorder.specs.Endian.{big_number}
use Rattle.mg_rtp.specs.declared.header.Header.{Header}
use Rattle.mg_rtp.specs.declared.rtp_fault.RtpFault.{RtpFault}
use Rattle.mg_rtp.specs.declared.rtp_fault.RtpFault.TheVariants.{Short, Version, Extension, Padding}
use Rattle.mg_rtp.specs.Header.{Layout}
use Rattle.mg_rtp.specs.Packet.{Begins, AreSources, IsExtension}

-- The bytes end before the end of the four bytes that start an extension, or before the end of the words that the last
-- two of these four bytes count.
abbrev pub EndsInExtension : List ℕ → Type 0
EndsInExtension rest = (length rest < 4) ⊎ (length rest < 4 + 4 * big_number 2 (drop 2 rest))

-- The last byte is not a valid padding count: it is missing, 0, or larger than the number of bytes.
abbrev pub HasBadPadding : List ℕ → Type 0
HasBadPadding rest =
    let count = slice_index rest (length rest - 1) in
    (rest ≡ []) ⊎ (count ≡ 0) ⊎ (length rest < count)

-- The rest after these sources and this extension does not contain the next part, because of this fault.
abbrev pub IsFaultyPart : Layout → (sources extension rest : List ℕ) → RtpFault → Type 0
IsFaultyPart layout sources extension rest Short =
    (sources ≡ []) × (extension ≡ []) × (length rest < 4 * layout.source_count)
IsFaultyPart layout sources extension rest Version = ⊥
IsFaultyPart layout sources extension rest Extension =
    AreSources layout.source_count sources × (extension ≡ [])
    × IsTrue layout.is_extended × EndsInExtension rest
IsFaultyPart layout sources extension rest Padding =
    AreSources layout.source_count sources × IsExtension layout.is_extended extension
    × IsTrue layout.is_padded × HasBadPadding rest

-- The bytes are a header and the parts after it, up to a faulty part.
pub record HasFaultyPart (bytes : List ℕ) (fault : RtpFault) : Type 0 where
  pub layout : Layout
  pub header : Header
  pub sources : List ℕ
  pub extension : List ℕ
  pub rest : List ℕ
  pub begins : Begins bytes layout header (sources ++ extension ++ rest)
  pub faulty : IsFaultyPart layout sources extension rest fault

-- The version, in the two high bits of the first byte.
abbrev pub version_of : List ℕ → ℕ
version_of bytes = slice_index bytes 0 / 64

-- The bytes have this fault.
abbrev pub IsFault : List ℕ → RtpFault → Type 0
IsFault bytes Short = (length bytes < 12) ⊎ HasFaultyPart bytes Short
IsFault bytes Version = (12 ≤ length bytes) × (version_of bytes ≢ 2)
IsFault bytes fault = HasFaultyPart bytes fault

-- The printed text of a fault.
abbrev pub fault_text : RtpFault → List ℕ
fault_text Short = codes "the datagram ends within the header or the sources"
fault_text Version = codes "the version is not 2"
fault_text Extension = codes "the datagram ends within the extension"
fault_text Padding = codes "the padding count is invalid"

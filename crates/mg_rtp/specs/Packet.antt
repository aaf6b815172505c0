-- Which bytes are a packet: the parts of RFC 3550, section 5.1, one after another.
use Rattle.std.specs.Prelude.{◌≡◌, ℕ, ◌+◌, ◌*◌, ◌^◌, ◌<◌, Bool, true, false, List, [], ◌∷◌, ◌++◌}
use Rattle.std.specs.Prelude.{length}
use Rattle.byteorder.specs.Endian.{big_bytes}
use Rattle.mg_rtp.specs.declared.header.Header.{Header}
use Rattle.mg_rtp.specs.Header.{IsHeader, Layout, header_bytes}

-- The bytes are a header followed by the rest.
pub record Begins (bytes : List ℕ) (layout : Layout) (header : Header)
    (rest : List ℕ) : Type 0 where
  pub joined : bytes ≡ header_bytes layout header ++ rest
  pub in_range : IsHeader header
  pub few_sources : layout.source_count < 2 ^ 4

-- The bytes are this many contributing sources of four bytes each.
abbrev pub AreSources : ℕ → List ℕ → Type 0
AreSources count bytes = length bytes ≡ 4 * count

-- The bytes are a header extension (section 5.3.1): two bytes of the profile, a count in 16 bits, and that many words
-- of four bytes.
pub record CountsWords (bytes : List ℕ) : Type 0 where
  pub profile : List ℕ
  pub count : ℕ
  pub words : List ℕ
  pub joined : bytes ≡ profile ++ big_bytes 2 count ++ words
  pub two_bytes : length profile ≡ 2
  pub in_range : count < 2 ^ 16
  pub all_words : length words ≡ 4 * count

-- The bytes are the header extension. They are empty if the packet has no extension.
abbrev pub IsExtension : Bool → List ℕ → Type 0
IsExtension false bytes = bytes ≡ []
IsExtension true bytes = CountsWords bytes

-- The bytes are padding: the last byte is the number of padding bytes, and the other bytes have any value.
pub record CountsItself (bytes : List ℕ) : Type 0 where
  pub filler : List ℕ
  pub joined : bytes ≡ filler ++ (length filler + 1) ∷ []

-- The bytes are the padding. They are empty if the packet has no padding.
abbrev pub IsPadding : Bool → List ℕ → Type 0
IsPadding false bytes = bytes ≡ []
IsPadding true bytes = CountsItself bytes

-- The bytes are the packet with this header and this payload.
pub record IsPacket (bytes : List ℕ) (header : Header) (payload : List ℕ) : Type 0 where
  pub layout : Layout
  pub sources : List ℕ
  pub extension : List ℕ
  pub padding : List ℕ
  pub begins : Begins bytes layout header (sources ++ extension ++ payload ++ padding)
  pub are_sources : AreSources layout.source_count sources
  pub is_extension : IsExtension layout.is_extended extension
  pub is_padding : IsPadding layout.is_padded padding

-- The faults, each with the parts of the packet before the faulty part.
use Rattle.std.proofs.Common.{◌≢◌, ℕ, ◌*◌, ◌<◌, ◌≤◌, ◌⊎◌, List, [], ◌++◌, length, inl, inr, refl, sym, subst}
use Rattle.std.proofs.lemmas.List.{append-nil}
use Rattle.std.specs.Prelude.{IsTrue}
use Rattle.mg_rtp.specs.declared.header.Header.{Header}
use Rattle.mg_rtp.specs.declared.rtp_fault.RtpFault.{RtpFault}
use Rattle.mg_rtp.specs.declared.rtp_fault.RtpFault.TheVariants.{Short, Version, Extension, Padding}
use Rattle.mg_rtp.specs.Header.{Layout}
use Rattle.mg_rtp.specs.Packet.{AreSources, Begins, IsExtension}
use Rattle.mg_rtp.specs.RtpFault.{EndsInExtension, HasBadPadding, IsFault, version_of}

-- The bytes start with a header that counts more sources than the rest holds.
pub record LacksSources (bytes : List ℕ) : Type 0 where
  pub layout : Layout
  pub header : Header
  pub rest : List ℕ
  pub begins : Begins bytes layout header rest
  pub few : length rest < 4 * layout.source_count

-- The bytes start with a header and its sources, but the extension is incomplete.
pub record LacksExtension (bytes : List ℕ) : Type 0 where
  pub layout : Layout
  pub header : Header
  pub sources : List ℕ
  pub rest : List ℕ
  pub begins : Begins bytes layout header (sources ++ rest)
  pub are_sources : AreSources layout.source_count sources
  pub is_extended : IsTrue layout.is_extended
  pub ends : EndsInExtension rest

-- The bytes start with a header, its sources and its extension, but the padding is invalid.
pub record LacksPadding (bytes : List ℕ) : Type 0 where
  pub layout : Layout
  pub header : Header
  pub sources : List ℕ
  pub extension : List ℕ
  pub rest : List ℕ
  pub begins : Begins bytes layout header (sources ++ extension ++ rest)
  pub are_sources : AreSources layout.source_count sources
  pub is_extension : IsExtension layout.is_extended extension
  pub is_padded : IsTrue layout.is_padded
  pub bad : HasBadPadding rest

abbrev pub IsFaultByPart : List ℕ → RtpFault → Type 0
IsFaultByPart bytes Short = (length bytes < 12) ⊎ LacksSources bytes
IsFaultByPart bytes Version = (12 ≤ length bytes) × (version_of bytes ≢ 2)
IsFaultByPart bytes Extension = LacksExtension bytes
IsFaultByPart bytes Padding = LacksPadding bytes

pub by_part : (bytes : List ℕ) (fault : RtpFault) → IsFault bytes fault → IsFaultByPart bytes fault
by_part bytes Short (inl few) = inl few
by_part bytes Short (inr h) = inr (record {
  layout = h.layout;
  header = h.header;
  rest = h.rest;
  begins = subst (λ (l : List ℕ). Begins bytes h.layout h.header (l ++ h.rest)) h.faulty.1
      (subst (λ (l : List ℕ). Begins bytes h.layout h.header (l ++ h.extension ++ h.rest)) h.faulty.0 h.begins);
  few = h.faulty.2;
})
by_part bytes Version h = h
by_part bytes Extension h = record {
  layout = h.layout;
  header = h.header;
  sources = h.sources;
  rest = h.rest;
  begins = subst (λ (l : List ℕ). Begins bytes h.layout h.header (l ++ h.rest)) (append-nil h.sources)
      (subst (λ (l : List ℕ). Begins bytes h.layout h.header (h.sources ++ l ++ h.rest)) h.faulty.1 h.begins);
  are_sources = h.faulty.0;
  is_extended = h.faulty.2;
  ends = h.faulty.3;
}
by_part bytes Padding h = record {
  layout = h.layout;
  header = h.header;
  sources = h.sources;
  extension = h.extension;
  rest = h.rest;
  begins = h.begins;
  are_sources = h.faulty.0;
  is_extension = h.faulty.1;
  is_padded = h.faulty.2;
  bad = h.faulty.3;
}

pub as_fault : (bytes : List ℕ) (fault : RtpFault) → IsFaultByPart bytes fault → IsFault bytes fault
as_fault bytes Short (inl few) = inl few
as_fault bytes Short (inr h) = inr (record {
  layout = h.layout;
  header = h.header;
  sources = [];
  extension = [];
  rest = h.rest;
  begins = h.begins;
  faulty = (refl, refl, h.few);
})
as_fault bytes Version h = h
as_fault bytes Extension h = record {
  layout = h.layout;
  header = h.header;
  sources = h.sources;
  extension = [];
  rest = h.rest;
  begins = subst (λ (l : List ℕ). Begins bytes h.layout h.header (l ++ h.rest)) (sym (append-nil h.sources)) h.begins;
  faulty = (h.are_sources, refl, h.is_extended, h.ends);
}
as_fault bytes Padding h = record {
  layout = h.layout;
  header = h.header;
  sources = h.sources;
  extension = h.extension;
  rest = h.rest;
  begins = h.begins;
  faulty = (h.are_sources, h.is_extension, h.is_padded, h.bad);
}

-- Lemmas that several proofs share, including proofs of the crates above.
pub mod EditLemmas
pub mod MaskLemmas
pub mod SeatsLemmas
pub mod TopologyLemmas
pub mod TripleLemmas

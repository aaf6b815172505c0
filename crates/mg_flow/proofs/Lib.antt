-- Lemmas that several proofs share.
pub mod HearsLemmas
pub mod MasksLemmas
pub mod SeatLemmas
pub mod TableLemmas
mod WordLemmas

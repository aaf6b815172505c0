pub mod DecimalLemmas
pub mod DigitSteps
pub mod CutLemmas
pub mod TermLemmas
pub mod AddressLemmas
pub mod ErrorLemmas
pub mod WordByteLemmas

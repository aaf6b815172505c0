pub mod AppendedLemmas
pub mod StorageLemmas

pub mod PassingLemmas
pub mod StreamLemmas

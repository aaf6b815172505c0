pub mod NumberLemmas
pub mod CommandLemmas
pub mod RequestedLemmas
pub mod EndLemmas

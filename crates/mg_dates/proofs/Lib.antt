pub mod DateLemmas
pub mod TimeLemmas

pub mod DueLemmas
pub mod TextLemmas
pub mod TickLemmas

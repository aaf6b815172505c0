mod HashLemmas
mod LastPartLemmas
pub mod TextLemmas
pub mod AppendLemmas
pub mod OpeningLemmas
pub mod RenewalLemmas

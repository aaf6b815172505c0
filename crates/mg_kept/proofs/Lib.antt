pub mod FindLemmas
pub mod KeepLemmas
pub mod AckLemmas
pub mod PlaceLemmas
pub mod NewerLemmas

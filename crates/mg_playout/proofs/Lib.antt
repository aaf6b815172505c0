pub mod PlacesLemmas
pub mod RingLemmas
pub mod TickLemmas
pub mod TurnLemmas

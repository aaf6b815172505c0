pub mod HeardLemmas
pub mod LimitLane
pub mod SumLemmas
pub mod TotalLemmas

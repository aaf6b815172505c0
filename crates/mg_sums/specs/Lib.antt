pub mod Sums
pub mod Samples
pub mod aids

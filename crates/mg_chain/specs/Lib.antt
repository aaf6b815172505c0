pub mod Seals
pub mod aids

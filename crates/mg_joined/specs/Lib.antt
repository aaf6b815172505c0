pub mod Joined
pub mod aids

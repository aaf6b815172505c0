pub mod Calls
pub mod Journaled
pub mod aids

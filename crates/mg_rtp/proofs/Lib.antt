pub mod Joined
pub mod Once
pub mod Outcome
pub mod Parts
mod FaultParts

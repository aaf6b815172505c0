pub mod Said
pub mod Checkpoint
pub mod aids

-- Tools for the proofs.
pub mod Word
pub mod Topology
pub mod Lowest
pub mod Edits

-- Tools for the proofs.
pub mod RoomFlows
pub mod Table
pub mod Words
pub mod Edits
pub mod Place

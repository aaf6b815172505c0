pub mod Order
pub mod Places
pub mod Played
pub mod Playout
pub mod Sequence
pub mod aids

pub mod Appending
pub mod LastPart
pub mod Opening
pub mod Opened

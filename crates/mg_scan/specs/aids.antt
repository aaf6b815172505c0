pub mod Marks
pub mod Places
pub mod Spelled
pub mod White

pub mod Ring
pub mod Turns

pub mod Bytes
pub mod aids

pub mod Places
pub mod Changes

pub mod Edits
pub mod Place
pub mod aids

pub mod Edits
pub mod Mask
pub mod Triple
pub mod aids

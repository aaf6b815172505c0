pub mod Reply
pub mod Listed
pub mod Media
pub mod Entries
pub mod Written
pub mod Theorems
pub mod aids

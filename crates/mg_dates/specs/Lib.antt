pub mod Dates
pub mod Times
pub mod aids

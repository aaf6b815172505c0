pub mod Address
pub mod Read
pub mod Controllers
pub mod ConfigOptions
pub mod Title
pub mod Script
pub mod FilePath
pub mod Setup

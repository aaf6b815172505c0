pub mod Keywords
pub mod Reading
pub mod Media
pub mod Commands
pub mod Parts
pub mod Requests
pub mod Text
pub mod Words

pub mod Line
pub mod Numbers
pub mod Requested
pub mod Status
pub mod Ends

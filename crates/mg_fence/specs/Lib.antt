pub mod Number
pub mod Fence
pub mod Reached

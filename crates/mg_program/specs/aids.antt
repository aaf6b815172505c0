pub mod Binding
pub mod Doing
pub mod Verifying

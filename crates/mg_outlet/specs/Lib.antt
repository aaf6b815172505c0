pub mod Outlet
pub mod Passing

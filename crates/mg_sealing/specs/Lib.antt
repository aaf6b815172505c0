pub mod Report
pub mod Verify
pub mod Sealed
pub mod Seal
pub mod Laws
pub mod aids

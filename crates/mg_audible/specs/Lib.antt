pub mod Without
pub mod Audible
pub mod Laws
pub mod Told
pub mod aids

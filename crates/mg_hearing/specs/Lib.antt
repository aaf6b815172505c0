pub mod Page
pub mod Absence
pub mod Files
pub mod Heard
pub mod Audible
pub mod Watched
pub mod Resumed
pub mod aids

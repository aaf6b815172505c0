pub mod Journal
pub mod Start
pub mod aids

pub mod Words
pub mod ByActions
pub mod Levels
pub mod Findings
pub mod Properties
pub mod Runs
pub mod Steps
pub mod Agreement

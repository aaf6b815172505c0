pub mod Status
pub mod Options
pub mod Pace
pub mod Text
pub mod Run
pub mod Program
pub mod Theorems
pub mod aids

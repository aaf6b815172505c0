pub mod Due
pub mod Text
pub mod Ticks
pub mod aids

pub mod Printing
pub mod Outside
pub mod Journaling
pub mod Driving
pub mod Tried

pub mod Error
pub mod Frame
pub mod Law
pub mod aids

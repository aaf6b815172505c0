pub mod Rules
pub mod ZoneName
pub mod Options
pub mod aids

pub mod LinesLeft
pub mod FieldsLeft
pub mod Progress
pub mod Reader
pub mod Contents

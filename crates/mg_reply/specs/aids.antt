pub mod Draft
pub mod Marks
pub mod Room
pub mod Width
pub mod Whole

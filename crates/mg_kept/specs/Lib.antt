pub mod KeptReplies
pub mod Theorems
pub mod aids

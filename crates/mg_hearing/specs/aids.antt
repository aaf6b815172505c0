pub mod Absences
pub mod Forms
pub mod Hashing
pub mod Opening
pub mod Parts
pub mod Beginning

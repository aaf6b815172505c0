pub mod Text
pub mod Journal
pub mod JournalFile
pub mod Opening
pub mod aids

pub mod Span
pub mod Tokens
pub mod Scanner
pub mod aids

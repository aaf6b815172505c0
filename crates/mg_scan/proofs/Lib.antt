pub mod WhiteSteps
pub mod QuoteLemmas
pub mod WordLemmas
pub mod JoinLemmas
pub mod BraceLemmas

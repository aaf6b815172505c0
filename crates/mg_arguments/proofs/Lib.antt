pub mod InvocationLemmas
pub mod RequestedRows
pub mod HeardOptionLemmas
pub mod SealingOptionLemmas
pub mod RuleLemmas

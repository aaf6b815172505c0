pub mod EndLemmas
pub mod PortLemmas
pub mod FailLemmas
pub mod DecisionLemmas
pub mod RenewLemmas
pub mod ReplayLemmas
pub mod VerifyLemmas

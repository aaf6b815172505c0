pub mod PortLemmas
pub mod StepLemmas
pub mod RunLemmas
pub mod AgreeLemmas
pub mod LawLemmas
pub mod FlowLemmas
pub mod KeepLemmas
pub mod ReportLemmas

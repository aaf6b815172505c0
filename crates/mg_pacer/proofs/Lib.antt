pub mod RequestedRows
pub mod DueLemmas
pub mod InvocationLemmas
pub mod OneLemmas
pub mod ProgramLemmas
pub mod RunLemmas
pub mod StepLemmas

pub mod HostCalls
pub mod aids

pub mod Status
pub mod Replay
pub mod Decisions
pub mod Serve
pub mod Program
pub mod Verify
pub mod aids

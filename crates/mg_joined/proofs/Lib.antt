pub mod FollowsLemmas
pub mod LineLemmas
pub mod LaterLemmas
pub mod JoinLemmas

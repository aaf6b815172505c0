pub mod ReachedLemmas

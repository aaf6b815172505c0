pub mod TitleLemmas
pub mod ConfigOptionLemmas
pub mod ReadLemmas

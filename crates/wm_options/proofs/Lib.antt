pub mod AskedLemmas
pub mod ReadLemmas

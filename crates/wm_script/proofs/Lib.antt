pub mod KeyLemmas
pub mod PlayLemmas
pub mod ReadingLemmas
pub mod RefusalLemmas

pub mod LinkLemmas
pub mod ListenLemmas
pub mod ToldLemmas

pub mod CrewLemmas
pub mod KeepLemmas

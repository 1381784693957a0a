pub mod LastingLemmas
pub mod MarkLemmas
pub mod NamingLemmas

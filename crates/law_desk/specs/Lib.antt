pub mod LastingLaws
pub mod MarkLaws
pub mod NamingLaws

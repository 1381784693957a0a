pub mod FoundLemmas
pub mod LastCounts
pub mod OutputLaws
pub mod OutputNames
pub mod OutputRows
pub mod SpaceLaws
pub mod SpaceNames
pub mod WordCounts

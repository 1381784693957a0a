pub mod FocusLemmas
pub mod MapLemmas
pub mod MergeLemmas
pub mod NodeLemmas
pub mod OrderLemmas
pub mod PlaceLemmas
pub mod RowLemmas
pub mod SpaceLemmas

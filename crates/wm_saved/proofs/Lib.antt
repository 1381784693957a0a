pub mod FaultLemmas
pub mod FitLemmas
pub mod ItemLemmas
pub mod MarkLemmas
pub mod NodeLemmas
pub mod OtherLemmas

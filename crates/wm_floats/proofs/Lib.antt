pub mod FloatLemmas
pub mod FullLemmas
pub mod LeafLemmas
pub mod MovedLemmas
pub mod PlaceLemmas
pub mod RiseLemmas
pub mod RoundLemmas
pub mod SieveLemmas

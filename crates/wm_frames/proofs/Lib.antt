pub mod DecodingLemmas
pub mod FrameLemmas
pub mod FrontLemmas
pub mod PartialLemmas
pub mod ReadingLemmas
pub mod StepLemmas

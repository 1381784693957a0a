pub mod EndLemmas
pub mod GoesLemmas
pub mod GoingLemmas
pub mod HearLemmas
pub mod LineLemmas
pub mod ServedLemmas
pub mod WalkLemmas

pub mod CallLemmas
pub mod GoesLemmas
pub mod GoingLemmas
pub mod HearLemmas
pub mod LinkLemmas
pub mod TalkLemmas
pub mod WalkLemmas

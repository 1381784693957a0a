pub mod LateLemmas
pub mod SpeakLemmas
pub mod WrittenLemmas

pub mod NodeLemmas
pub mod SentLemmas

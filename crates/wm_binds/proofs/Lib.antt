pub mod EntryLemmas
pub mod NameLemmas
pub mod ReadingLemmas
pub mod SoundLemmas
pub mod TableLemmas
pub mod TextLemmas
pub mod Utf8Lemmas

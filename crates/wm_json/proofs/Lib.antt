pub mod EventLemmas
pub mod FieldLemmas
pub mod NodeLemmas
pub mod NodeTextLemmas
pub mod PrintLemmas
pub mod SpaceLemmas
pub mod TextLemmas

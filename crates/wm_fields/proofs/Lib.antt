pub mod FieldLemmas
pub mod PropertyLemmas
pub mod SplitLemmas
pub mod TextLemmas

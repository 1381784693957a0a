pub mod DeskCrossing
pub mod RecordLemmas
pub mod RegexCrossing
pub mod SeatLemmas

pub mod Afloat
pub mod AfloatLaws
pub mod MarkLaws
pub mod Marks
pub mod Urgent
pub mod UrgentLaws

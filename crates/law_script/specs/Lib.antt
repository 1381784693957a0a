pub mod Deeds
pub mod Lines
pub mod Pieces
pub mod PlanLines
pub mod Scripts
pub mod Steps

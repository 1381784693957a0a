pub mod Lines
pub mod Out
pub mod Playing
pub mod Refusals
pub mod Script

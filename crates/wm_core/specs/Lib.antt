pub mod DeskValue
pub mod Entries
pub mod Laws
pub mod Order
pub mod Passes
pub mod Steps

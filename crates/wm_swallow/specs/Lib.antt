pub mod Appending
pub mod Behind
pub mod Laws
pub mod Limits
pub mod SavedRows
pub mod Steps
pub mod Swallowing

pub mod Answers
pub mod Containers
pub mod Faults
pub mod Fields
pub mod Limits
pub mod Others
pub mod Reading
pub mod Swallows

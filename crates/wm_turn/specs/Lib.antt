pub mod History
pub mod Pass
pub mod Rule
pub mod Steps
pub mod Told

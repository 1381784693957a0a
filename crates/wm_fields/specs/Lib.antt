pub mod Fields
pub mod Properties
pub mod Quoted
pub mod Split

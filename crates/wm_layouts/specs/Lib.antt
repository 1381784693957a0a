pub mod Plan
pub mod Sizes

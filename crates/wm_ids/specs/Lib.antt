pub mod IdMap
pub mod Spread

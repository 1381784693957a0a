pub mod Lists
pub mod Escapes

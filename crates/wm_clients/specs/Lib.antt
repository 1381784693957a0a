pub mod Endings
pub mod Lines
pub mod Served
pub mod Serving
pub mod Telling
pub mod Walk
pub mod Wanted

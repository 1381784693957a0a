pub mod Fullscreen
pub mod Laws

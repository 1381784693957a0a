pub mod ErrorText
pub mod Rect
pub mod formers

pub mod CanvasValue
pub mod Escapes
pub mod FrameText
pub mod Laws
pub mod Picture
pub mod Rows

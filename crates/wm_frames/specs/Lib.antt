pub mod Frame
pub mod Front
pub mod Reading
pub mod Decoding
pub mod Partial
pub mod Step

pub mod Calls
pub mod Frames
pub mod Marks
pub mod Names
pub mod Talking
pub mod Told
pub mod Values

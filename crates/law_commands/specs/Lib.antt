pub mod Focused
pub mod Focusing
pub mod Sending
pub mod Showing
pub mod Turning

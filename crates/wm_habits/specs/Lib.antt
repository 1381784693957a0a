pub mod Acting
pub mod Asking
pub mod Late
pub mod Saying
pub mod Speaking
pub mod Written

pub mod Added
pub mod Moved
pub mod Renamed
pub mod Returned
pub mod Sent
pub mod Settled
pub mod Shown
pub mod Stepped

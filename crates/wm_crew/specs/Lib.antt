pub mod Crew
pub mod Duties
pub mod Faults
pub mod Running
pub mod Status

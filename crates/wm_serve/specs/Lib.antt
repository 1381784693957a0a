pub mod Callers
pub mod Once
pub mod Rehearsals
pub mod Rehearsed
pub mod Running
pub mod Said
pub mod Serving
pub mod Summary

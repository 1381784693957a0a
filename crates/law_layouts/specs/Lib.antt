pub mod Afloat
pub mod Borders
pub mod Layouts
pub mod Splitting
pub mod Stowing
pub mod Switches

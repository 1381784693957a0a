pub mod Above
pub mod Log

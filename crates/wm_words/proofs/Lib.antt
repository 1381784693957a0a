pub mod Pieces
pub mod NumbersAgain
pub mod Cuts

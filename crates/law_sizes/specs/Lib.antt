pub mod Dealing
pub mod Edges
pub mod Rects
pub mod Returning
pub mod Rounds
pub mod Shares

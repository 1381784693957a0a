pub mod Arrays
pub mod Copies
pub mod Events
pub mod Kinds
pub mod Nodes
pub mod Objects
pub mod Replies
pub mod Spaces

pub mod LinkMemory
pub mod Linking
pub mod ListenMemory
pub mod Listening
pub mod Memory
pub mod ReadFault
pub mod Told

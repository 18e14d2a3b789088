pub mod Cause
pub mod Turns
pub mod Tree
pub mod Names
pub mod Sink
pub mod Listing
pub mod Memory

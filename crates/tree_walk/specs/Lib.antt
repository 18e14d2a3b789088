pub mod Traversal
pub mod Cause
pub mod Walked

pub mod Paths
pub mod Files
pub mod Held
pub mod Causes
pub mod Limits

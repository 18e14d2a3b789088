pub mod Owned
pub mod Cause
pub mod Kept

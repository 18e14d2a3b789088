pub mod Entries
pub mod Errors
pub mod Floats
pub mod Least
pub mod Lockfile

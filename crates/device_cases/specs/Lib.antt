pub mod Quiet
pub mod Session

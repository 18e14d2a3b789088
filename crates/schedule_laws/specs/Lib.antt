pub mod Reported
pub mod Starts

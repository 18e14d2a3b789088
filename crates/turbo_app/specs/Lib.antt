pub mod Asking
pub mod Samples
pub mod Outcomes
pub mod Stops
pub mod Images
pub mod Causes
pub mod Steps

pub mod Standing
pub mod Turns
pub mod Outcomes
pub mod Stops
pub mod Images
pub mod Causes

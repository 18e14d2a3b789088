pub mod Asking
pub mod Outcomes
pub mod Left
pub mod Steps
pub mod Stops

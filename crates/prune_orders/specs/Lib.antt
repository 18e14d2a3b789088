pub mod Asking
pub mod Outcomes
pub mod Stops
pub mod Laws
pub mod Steps

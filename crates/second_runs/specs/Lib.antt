pub mod Moments
pub mod Opened
pub mod Outcomes
pub mod Refused
pub mod Stops
pub mod Images
pub mod Laws

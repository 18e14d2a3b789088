pub mod Tasks
pub mod Parts
pub mod Listings
pub mod Refusals
pub mod Cause
pub mod Steps
pub mod Laws

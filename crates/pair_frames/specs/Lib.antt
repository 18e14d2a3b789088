pub mod Pairs
pub mod Runs
pub mod Puts
pub mod Joins
pub mod Laws
pub mod Cuts
pub mod Steps
pub mod Reading

pub mod Parts
pub mod Faults
pub mod Manifest
pub mod Steps

pub mod Stops
pub mod Devices
pub mod Keeping

pub mod Walk
pub mod Decides

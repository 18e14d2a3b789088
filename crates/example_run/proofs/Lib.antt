pub mod Outputs
pub mod Copies
pub mod Ready

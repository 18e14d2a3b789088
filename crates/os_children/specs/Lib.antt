pub mod Shell
pub mod Taking

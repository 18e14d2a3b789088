pub mod Separates
pub mod Writing

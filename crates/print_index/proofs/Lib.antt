pub mod Lasts
pub mod Pushes

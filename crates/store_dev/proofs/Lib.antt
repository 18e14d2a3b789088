pub mod Pushed
pub mod Crashed

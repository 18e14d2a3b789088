pub mod Apart
pub mod Below
pub mod Plain
pub mod Quiet
